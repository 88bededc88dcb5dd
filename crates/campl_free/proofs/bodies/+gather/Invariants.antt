use Rattle.std.proofs.Common.{◌≡◌, List, drop, map}
use Rattle.campl_tree.specs.View.{hcase_rows, view_hcase_row, branches, view_branch, case_rows, view_case_row, parts, view_part}
use Rattle.campl_types.specs.Names.{Name}
use Rattle.campl_free.specs.Gathers.{Gathers, free_in_rows, free_in_branches, free_in_cases, free_in_parts}
use Rattle.campl_free.proofs.bodies.+gather.Given as goal

abbrev pub invariant-gather_rows-loop-row : goal.invariant-gather_rows-loop-row
invariant-gather_rows-loop-row l =
    record {
      told : (final : List Name) → Gathers l.initial.bound (free_in_rows (hcase_rows (map view_hcase_row (drop l.row-index l.rows)))) l.found final
          → Gathers l.initial.bound (free_in_rows (hcase_rows (map view_hcase_row l.rows))) l.initial.found final;
      kept : l.bound ≡ l.initial.bound;
    }

abbrev pub invariant-gather_branches-loop-row : goal.invariant-gather_branches-loop-row
invariant-gather_branches-loop-row l =
    record {
      told : (final : List Name) → Gathers l.initial.bound (free_in_branches (branches (map view_branch (drop l.row-index l.rows)))) l.found final
          → Gathers l.initial.bound (free_in_branches (branches (map view_branch l.rows))) l.initial.found final;
      kept : l.bound ≡ l.initial.bound;
    }

abbrev pub invariant-gather_case_rows-loop-row : goal.invariant-gather_case_rows-loop-row
invariant-gather_case_rows-loop-row l =
    record {
      told : (final : List Name) → Gathers l.initial.bound (free_in_cases (case_rows (map view_case_row (drop l.row-index l.rows)))) l.found final
          → Gathers l.initial.bound (free_in_cases (case_rows (map view_case_row l.rows))) l.initial.found final;
      kept : l.bound ≡ l.initial.bound;
    }

abbrev pub invariant-gather_parts-loop-part : goal.invariant-gather_parts-loop-part
invariant-gather_parts-loop-part l =
    record {
      told : (final : List Name) → Gathers l.initial.bound (free_in_parts (parts (map view_part (drop l.part-index l.all)))) l.found final
          → Gathers l.initial.bound (free_in_parts (parts (map view_part l.all))) l.initial.found final;
      kept : l.bound ≡ l.initial.bound;
    }
