use Rattle.std.proofs.Common.{◌-◌}
use Rattle.step_cases.specs.Begun.{IsRunning}
use Rattle.step_cases.proofs.turns.print_turns.Given as goal

abbrev pub invariant-loop-steps : goal.invariant-loop-steps
invariant-loop-steps g l = IsRunning l.fn.program l.solo

abbrev pub decreases-loop-steps : goal.decreases-loop-steps
decreases-loop-steps g l = 30 - l.steps
