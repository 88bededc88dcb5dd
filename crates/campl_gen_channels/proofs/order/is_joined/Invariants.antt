use Rattle.std.proofs.Common.{◌≡◌, drop}
use Rattle.campl_plug.specs.TreeOrder.{is_linked}
use Rattle.campl_gen_channels.proofs.order.is_joined.Given as goal

abbrev pub invariant-loop-i : goal.invariant-loop-i
invariant-loop-i l = is_linked (drop l.i l.joins) l.part l.other ≡ is_linked l.joins l.part l.other
