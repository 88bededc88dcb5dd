use Rattle.std.proofs.Common.{◌≡◌, ◌++◌, drop, map}
use Rattle.campl_tree.specs.View.{view_link}
use Rattle.campl_held.specs.Slots.{view_held}
use Rattle.campl_plug_heads.specs.Heads.{ends_in, LinksStand}
use Rattle.campl_plug_heads.proofs.share.add_ends.Given as goal

abbrev pub invariant-loop-i : goal.invariant-loop-i
invariant-loop-i l =
    (view_held l.share ++ ends_in l.outputs l.names (map view_link (drop l.i l.links)) ≡ view_held l.initial.share ++ ends_in l.outputs l.names (map view_link l.links))
    × LinksStand (map view_link (drop l.i l.links)) (view_held l.share)
