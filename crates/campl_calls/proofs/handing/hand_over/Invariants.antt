use Rattle.std.proofs.Common.{◌≡◌, map, drop}
use Rattle.campl_tree.specs.View.{view_chan}
use Rattle.campl_linear.specs.Calls.{handed}
use Rattle.campl_held.specs.Slots.{view_held}
use Rattle.campl_calls.proofs.handing.hand_over.Given as goal

abbrev pub invariant-loop-i : goal.invariant-loop-i
invariant-loop-i l =
    handed l.side (drop l.i l.names) (map view_chan (drop l.i l.types)) (view_held l.held) ≡ handed l.side l.names (map view_chan l.types) (view_held l.initial.held)
