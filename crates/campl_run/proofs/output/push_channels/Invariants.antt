use Rattle.std.proofs.Common.{◌≡◌, ◌++◌, drop}
use Rattle.campl_run.specs.Printed.{lines_from}
use Rattle.campl_run.proofs.output.push_channels.Given as goal

-- the lines so far and those of the rest are all
abbrev pub invariant-loop-i : goal.invariant-loop-i
invariant-loop-i l = l.output.items ++ lines_from l.i (drop l.i l.names) l.processes ≡ l.initial.output.items ++ lines_from 0 l.names l.processes
