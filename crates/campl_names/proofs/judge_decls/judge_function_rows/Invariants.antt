use Rattle.std.proofs.Common.{◌≡◌, ◌++◌, drop, map}
use Rattle.campl_tree.specs.Plain.Decl.{FunctionRow}
use Rattle.campl_tree.specs.View.{view_function_row, view_decl}
use Rattle.campl_types.specs.Known.{each, in_patterns, in_expr}
use Rattle.campl_types.specs.Patterns.{bound_in_all}
use Rattle.campl_names.proofs.judge_decls.judge_function_rows.Given as goal

abbrev pub invariant-loop-row : goal.invariant-loop-row
invariant-loop-row l =
    each (λ (r : FunctionRow). in_patterns (map view_decl l.world) r.patterns ++ in_expr (map view_decl l.world) (bound_in_all r.patterns) r.value) (map view_function_row (drop l.row-index l.rows)) ≡ each (λ (r : FunctionRow). in_patterns (map view_decl l.world) r.patterns ++ in_expr (map view_decl l.world) (bound_in_all r.patterns) r.value) (map view_function_row l.rows)
