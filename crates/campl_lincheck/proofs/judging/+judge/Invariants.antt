use Rattle.std.proofs.Common.{◌≡◌, ◌+◌, ◌*◌, map, drop}
use Rattle.campl_tree.specs.View.{view_seq, view_body, view_last, view_hcase_row, hcase_rows, view_branch, branches, view_case_row, case_rows, view_link, view_part, parts as part_list, view_decl}
use Rattle.campl_vars.specs.Variables.{view_vars}
use Rattle.campl_held.specs.Slots.{view_held}
use Rattle.campl_held.specs.Asked.{view_offer}
use Rattle.campl_lincheck.specs.Steps.{judged_rows, judged_branches, judged_cases, judged_parts}
use Rattle.campl_lincheck.proofs.Weights.{weight, weights}
use Rattle.campl_lincheck.proofs.judging.+judge.Given as goal

abbrev pub decreases-judge : goal.decreases-judge
decreases-judge l = 8 * weight (view_body l.body.now) + 2

abbrev pub decreases-judge_last : goal.decreases-judge_last
decreases-judge_last l = 8 * weight (view_last l.last.now) + 1

abbrev pub decreases-judge_fork : goal.decreases-judge_fork
decreases-judge_fork l = 8 * (weight (view_branch l.left.now).1 + weight (view_branch l.right.now).1) + 7

abbrev pub decreases-rows::judge_hcase : goal.decreases-rows::judge_hcase
decreases-rows::judge_hcase l = 8 * weights (map view_hcase_row l.rows.now) + 7

abbrev pub decreases-rows::judge_rows : goal.decreases-rows::judge_rows
decreases-rows::judge_rows l = 8 * weights (map view_hcase_row l.rows.now) + 6

abbrev pub decreases-rows::judge_row : goal.decreases-rows::judge_row
decreases-rows::judge_row l = 8 * weight (view_hcase_row l.row.now).1 + 5

abbrev pub decreases-rows::judge_race : goal.decreases-rows::judge_race
decreases-rows::judge_race l = 8 * weights (map view_branch l.rows.now) + 7

abbrev pub decreases-rows::judge_branches : goal.decreases-rows::judge_branches
decreases-rows::judge_branches l = 8 * weights (map view_branch l.rows.now) + 6

abbrev pub decreases-rows::judge_case : goal.decreases-rows::judge_case
decreases-rows::judge_case l = 8 * weights (map view_case_row l.rows.now) + 7

abbrev pub decreases-rows::judge_cases : goal.decreases-rows::judge_cases
decreases-rows::judge_cases l = 8 * weights (map view_case_row l.rows.now) + 6

abbrev pub decreases-rows::judge_case_row : goal.decreases-rows::judge_case_row
decreases-rows::judge_case_row l = 8 * weight (view_case_row l.row.now).1 + 5

abbrev pub decreases-rows::judge_under : goal.decreases-rows::judge_under
decreases-rows::judge_under l = 8 * weight (view_body l.body.now) + 4

abbrev pub decreases-rows::judge_copy : goal.decreases-rows::judge_copy
decreases-rows::judge_copy l = 8 * weight (view_body l.body.now) + 3

abbrev pub decreases-parts::judge_plug : goal.decreases-parts::judge_plug
decreases-parts::judge_plug l = 8 * weights (map view_part l.parts.now) + 7

abbrev pub decreases-parts::judge_parts : goal.decreases-parts::judge_parts
decreases-parts::judge_parts l = 8 * weights (map view_part l.parts.now) + 6

abbrev pub decreases-parts::judge_part : goal.decreases-parts::judge_part
decreases-parts::judge_part l = 8 * weight (view_part l.part.now).1 + 5

abbrev pub invariant-rows::judge_rows-loop-i : goal.invariant-rows::judge_rows-loop-i
invariant-rows::judge_rows-loop-i l =
    record {
      told : judged_rows (map view_decl l.world) (view_vars l.initial.vars) (view_held l.held) l.x (view_offer (map view_decl l.world) l.offer) (hcase_rows (map view_hcase_row (drop l.i l.rows)))
          ≡ judged_rows (map view_decl l.world) (view_vars l.initial.vars) (view_held l.held) l.x (view_offer (map view_decl l.world) l.offer) (hcase_rows (map view_hcase_row l.rows));
      kept : l.vars ≡ l.initial.vars;
    }

abbrev pub invariant-rows::judge_branches-loop-i : goal.invariant-rows::judge_branches-loop-i
invariant-rows::judge_branches-loop-i l =
    record {
      told : judged_branches (map view_decl l.world) (view_vars l.initial.vars) (view_held l.held) (branches (map view_branch (drop l.i l.rows)))
          ≡ judged_branches (map view_decl l.world) (view_vars l.initial.vars) (view_held l.held) (branches (map view_branch l.rows));
      kept : l.vars ≡ l.initial.vars;
    }

abbrev pub invariant-rows::judge_cases-loop-i : goal.invariant-rows::judge_cases-loop-i
invariant-rows::judge_cases-loop-i l =
    record {
      told : judged_cases (map view_decl l.world) (view_vars l.initial.vars) (view_held l.held) (view_seq l.t) (case_rows (map view_case_row (drop l.i l.rows)))
          ≡ judged_cases (map view_decl l.world) (view_vars l.initial.vars) (view_held l.held) (view_seq l.t) (case_rows (map view_case_row l.rows));
      kept : l.vars ≡ l.initial.vars;
    }

abbrev pub invariant-parts::judge_parts-loop-i : goal.invariant-parts::judge_parts-loop-i
invariant-parts::judge_parts-loop-i l =
    record {
      told : judged_parts (map view_decl l.world) (view_vars l.initial.vars) (map view_link l.links) (view_held l.held) (part_list (map view_part (drop l.i l.parts)))
          ≡ judged_parts (map view_decl l.world) (view_vars l.initial.vars) (map view_link l.links) (view_held l.held) (part_list (map view_part l.parts));
      kept : l.vars ≡ l.initial.vars;
    }
