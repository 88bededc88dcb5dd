use Rattle.std.proofs.Common.{◌≡◌, ◌++◌, true, drop}
use Rattle.campl_run.specs.Printed.{asked_from, led_names}
use Rattle.campl_run.proofs.output.push_asked.Given as goal

-- the names so far and those of the rest are all
abbrev pub invariant-loop-i : goal.invariant-loop-i
invariant-loop-i l =
    l.output.items ++ led_names l.is_first (asked_from l.i (drop l.i l.names) l.processes) ≡ l.initial.output.items ++ led_names true (asked_from 0 l.names l.processes)
