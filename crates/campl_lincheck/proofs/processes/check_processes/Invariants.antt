use Rattle.std.proofs.Common.{◌≡◌, map, drop}
use Rattle.campl_tree.specs.View.{view_decl}
use Rattle.campl_linear.specs.Processes.{judge_processes}
use Rattle.campl_lincheck.proofs.processes.check_processes.Given as goal

abbrev pub invariant-loop-i : goal.invariant-loop-i
invariant-loop-i l =
    judge_processes (map view_decl l.world) (map view_decl (drop l.i l.declarations))
    ≡ judge_processes (map view_decl l.world) (map view_decl l.declarations)
