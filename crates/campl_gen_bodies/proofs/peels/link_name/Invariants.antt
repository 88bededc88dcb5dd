use Rattle.std.proofs.Common.{◌≡◌, map, drop}
use Rattle.campl_tree.specs.View.{view_link, view_part, parts}
use Rattle.campl_gen_channels.specs.Orders.{view_part_at}
use Rattle.campl_gen_bodies.specs.Peels.{left_links, link_of}
use Rattle.campl_gen_bodies.proofs.peels.link_name.Given as goal

abbrev pub invariant-loop-i : goal.invariant-loop-i
invariant-loop-i l = link_of (left_links l.used (map view_link (drop l.i l.links))) (view_part l.part).0 (parts (map view_part_at l.behind))
    ≡ link_of (left_links l.used (map view_link l.links)) (view_part l.part).0 (parts (map view_part_at l.behind))
