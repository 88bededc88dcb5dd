use Rattle.std.proofs.Common.{◌≡◌, drop, map}
use Rattle.campl_tree.specs.View.{hcase_rows, view_hcase_row, branches, view_branch, case_rows, view_case_row, parts, view_part, view_decl}
use Rattle.campl_types.specs.Known.{in_hcase_rows, in_branches, in_case_rows, in_parts}
use Rattle.campl_names.proofs.judge_bodies.+body.Given as goal

abbrev pub invariant-judge_hcase_rows-loop-row : goal.invariant-judge_hcase_rows-loop-row
invariant-judge_hcase_rows-loop-row l =
    (in_hcase_rows (map view_decl l.world) l.scope (hcase_rows (map view_hcase_row (drop l.row-index l.rows))) ≡ in_hcase_rows (map view_decl l.world) l.initial.scope (hcase_rows (map view_hcase_row l.rows)))
    × (l.scope ≡ l.initial.scope)

abbrev pub invariant-judge_branches-loop-row : goal.invariant-judge_branches-loop-row
invariant-judge_branches-loop-row l =
    (in_branches (map view_decl l.world) l.scope (branches (map view_branch (drop l.row-index l.rows))) ≡ in_branches (map view_decl l.world) l.initial.scope (branches (map view_branch l.rows)))
    × (l.scope ≡ l.initial.scope)

abbrev pub invariant-judge_case_rows-loop-row : goal.invariant-judge_case_rows-loop-row
invariant-judge_case_rows-loop-row l =
    (in_case_rows (map view_decl l.world) l.scope (case_rows (map view_case_row (drop l.row-index l.rows))) ≡ in_case_rows (map view_decl l.world) l.initial.scope (case_rows (map view_case_row l.rows)))
    × (l.scope ≡ l.initial.scope)

abbrev pub invariant-judge_parts-loop-part : goal.invariant-judge_parts-loop-part
invariant-judge_parts-loop-part l =
    (in_parts (map view_decl l.world) l.scope (parts (map view_part (drop l.part-index l.all))) ≡ in_parts (map view_decl l.world) l.initial.scope (parts (map view_part l.all)))
    × (l.scope ≡ l.initial.scope)
