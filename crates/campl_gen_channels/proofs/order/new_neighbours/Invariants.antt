use Rattle.std.proofs.Common.{◌≡◌, ◌-◌, ◌≤◌}
use Rattle.campl_plug.specs.TreeOrder.{new_neighbours}
use Rattle.campl_gen_channels.proofs.order.new_neighbours.Given as goal

abbrev pub invariant-parts : goal.invariant-parts
invariant-parts l = record {
  found : l.found.items ≡ new_neighbours l.number l.joins l.order l.part;
  within : l.number ≤ l.count;
}

abbrev pub decreases-parts : goal.decreases-parts
decreases-parts l = l.count - l.number
