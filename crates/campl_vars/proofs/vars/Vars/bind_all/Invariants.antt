use Rattle.std.proofs.Common.{◌≡◌, ◌++◌, reverse, take}
use Rattle.campl_vars.specs.Variables.{bound}
use Rattle.campl_vars.proofs.vars.Vars.bind_all.Given as goal

abbrev pub invariant-loop-i : goal.invariant-loop-i
invariant-loop-i l = l.self ≡ bound (reverse (take l.i l.bindings)) ++ l.initial.self
