use Rattle.std.proofs.Common.{◌≡◌, ◌++◌, ◌≤◌, map, take, reverse, length}
use Rattle.campl_tree.specs.View.{view_part}
use Rattle.campl_gen_channels.specs.Orders.{items_at, view_part_at}
use Rattle.campl_gen_channels.proofs.order.pick_last_first.Given as goal

abbrev pub invariant-parts : goal.invariant-parts
invariant-parts l = record {
  picked : map view_part_at l.picked ++ map view_part (items_at l.parts (reverse (take l.more l.order))) ≡ map view_part (items_at l.parts (reverse l.order));
  within : l.more ≤ length l.order;
}

abbrev pub decreases-parts : goal.decreases-parts
decreases-parts l = l.more
