use Rattle.std.proofs.Common.{◌≡◌, ◌++◌, map, drop}
use Rattle.campl_tree.specs.View.{view_decl, view_function_row}
use Rattle.campl_code.specs.CaseDecisions.{decisions_of_function_rows}
use Rattle.campl_instructions.specs.View.{view_decision}
use Rattle.campl_gen_functions.proofs.functions.decide_function_rows.Given as goal

abbrev pub invariant-loop-i : goal.invariant-loop-i
invariant-loop-i l =
    map view_decision l.out ++ decisions_of_function_rows (map view_decl l.world) (map view_function_row (drop l.i l.rows))
    ≡ map view_decision l.initial.out ++ decisions_of_function_rows (map view_decl l.world) (map view_function_row l.rows)
