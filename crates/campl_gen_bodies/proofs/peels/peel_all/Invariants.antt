use Rattle.std.proofs.Common.{◌≡◌, ◌≤◌, ◌-◌, map, drop, length}
use Rattle.campl_tree.specs.View.{view_link, parts}
use Rattle.campl_types.specs.World.{World}
use Rattle.campl_gen_channels.specs.Orders.{view_part_at}
use Rattle.campl_gen_channels.specs.View.{view_channels}
use Rattle.campl_gen_bodies.specs.Peels.{children_built, peels_built, left_links, heaviest, heaviest_child}
use Rattle.campl_gen_bodies.specs.View.{view_making, view_child}
use Rattle.campl_gen_bodies.proofs.peels.peel_all.Given as goal

abbrev pub invariant-parts : goal.invariant-parts
invariant-parts l = record {
  built : (w : World) → children_built w (map view_child l.peeling.children) (peels_built w (left_links l.peeling.used (map view_link l.links)) (parts (map view_part_at (drop l.at l.order))) l.peeling.rest.next (view_channels l.peeling.rest) (view_making l.making))
      ≡ peels_built w (map view_link l.links) (parts (map view_part_at l.order)) l.held.next (view_channels l.held) (view_making l.initial.making);
  light : heaviest_child (map view_child l.peeling.children) ≤ heaviest (parts (map view_part_at l.order));
  within : l.at ≤ length l.order - 1;
}

abbrev pub decreases-parts : goal.decreases-parts
decreases-parts l = length l.order - l.at
