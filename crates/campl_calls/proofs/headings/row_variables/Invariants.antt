use Rattle.std.proofs.Common.{◌≡◌, ◌++◌, map, drop}
use Rattle.campl_tree.specs.View.{view_seq}
use Rattle.campl_types.specs.Linear.{row_variables}
use Rattle.campl_vars.specs.Variables.{view_vars}
use Rattle.campl_calls.proofs.headings.row_variables.Given as goal

abbrev pub invariant-loop-i : goal.invariant-loop-i
invariant-loop-i l = row_variables (drop l.i l.binders) (map view_seq (drop l.i l.types)) ++ view_vars l.vars ≡ row_variables l.binders (map view_seq l.types)
