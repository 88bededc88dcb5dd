use Rattle.std.proofs.Common.{◌≡◌, drop}
use Rattle.campl_run.specs.Left.{has_some, is_broken}
use Rattle.campl_run.proofs.ended.has_broken.Given as goal

abbrev pub invariant-loop-process : goal.invariant-loop-process
invariant-loop-process l = has_some is_broken (drop l.process-index l.processes) ≡ has_some is_broken l.processes
