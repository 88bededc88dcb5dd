use Rattle.std.proofs.Common.{◌≡◌, ◌++◌}
use Rattle.campl_shown.proofs.shown.Shown.push_str.Given as goal

abbrev pub invariant-loop-c : goal.invariant-loop-c
invariant-loop-c l = l.self ≡ l.initial.self ++ l.yielded
