use Rattle.std.proofs.Common.{◌≡◌, ◌-◌}
use Rattle.campl_plug.specs.TreeOrder.{searched, tree_order_of}
use Rattle.campl_gen_channels.proofs.order.part_order.Given as goal

abbrev pub invariant-steps : goal.invariant-steps
invariant-steps l = searched (l.count - l.next) l.count l.joins l.order.items l.next ≡ tree_order_of l.count l.joins

abbrev pub decreases-steps : goal.decreases-steps
decreases-steps l = l.count - l.next
