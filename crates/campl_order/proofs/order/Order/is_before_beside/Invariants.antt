use Rattle.std.proofs.Common.{◌≡◌}
use Rattle.campl_order.specs.Orders.{rank}
use Rattle.campl_order.proofs.Earlier.{Up}
use Rattle.campl_order.proofs.order.Order.is_before_beside.Given as goal

abbrev pub invariant-up : goal.invariant-up
invariant-up l = record {
  up : Up l.self.ranks.items l.a l.b l.i l.j;
  left : l.left ≡ rank l.self.ranks.items l.i;
  right : l.right ≡ rank l.self.ranks.items l.j;
}

abbrev pub decreases-up : goal.decreases-up
decreases-up l = l.i
