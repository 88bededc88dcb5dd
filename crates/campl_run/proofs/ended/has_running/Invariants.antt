use Rattle.std.proofs.Common.{◌≡◌, drop}
use Rattle.campl_run.specs.Left.{has_some, is_running}
use Rattle.campl_run.proofs.ended.has_running.Given as goal

abbrev pub invariant-loop-process : goal.invariant-loop-process
invariant-loop-process l = has_some is_running (drop l.process-index l.processes) ≡ has_some is_running l.processes
