use Rattle.std.proofs.Common.{◌≡◌, ◌++◌, map, drop}
use Rattle.campl_tree.specs.View.{view_decl}
use Rattle.campl_code.specs.CaseDecisions.{decisions_of_functions}
use Rattle.campl_code.specs.Stands.{functions_of}
use Rattle.campl_instructions.specs.View.{view_decision}
use Rattle.campl_gen_functions.proofs.functions.function_decisions.Given as goal

abbrev pub invariant-loop-i : goal.invariant-loop-i
invariant-loop-i l =
    map view_decision l.out ++ decisions_of_functions (map view_decl l.world) (functions_of (map view_decl (drop l.i l.declarations)))
    ≡ decisions_of_functions (map view_decl l.world) (functions_of (map view_decl l.declarations))
