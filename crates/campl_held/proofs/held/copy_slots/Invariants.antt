use Rattle.std.proofs.Common.{◌≡◌, take}
use Rattle.campl_linear.specs.Holding.{those}
use Rattle.campl_held.specs.Slots.{view_held, live, is_kept}
use Rattle.campl_held.proofs.held.copy_slots.Given as goal

abbrev pub invariant-loop-i : goal.invariant-loop-i
invariant-loop-i l = view_held l.held ≡ those (is_kept l.keep l.names) (view_held (live (take l.i l.slots)))
