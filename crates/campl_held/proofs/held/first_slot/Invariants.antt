use Rattle.std.proofs.Common.{◌≡◌, drop}
use Rattle.campl_linear.specs.Holding.{those}
use Rattle.campl_held.specs.Slots.{view_held, live, is_outside}
use Rattle.campl_held.proofs.held.first_slot.Given as goal

abbrev pub invariant-loop-i : goal.invariant-loop-i
invariant-loop-i l = those (is_outside l.inputs l.outputs) (view_held (live (drop l.i l.slots))) ≡ those (is_outside l.inputs l.outputs) (view_held (live l.slots))
