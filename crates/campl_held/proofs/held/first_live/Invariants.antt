use Rattle.std.proofs.Common.{◌≡◌, drop}
use Rattle.campl_held.specs.Slots.{live}
use Rattle.campl_held.proofs.held.first_live.Given as goal

abbrev pub invariant-loop-i : goal.invariant-loop-i
invariant-loop-i l = live (drop l.i l.slots) ≡ live l.slots
