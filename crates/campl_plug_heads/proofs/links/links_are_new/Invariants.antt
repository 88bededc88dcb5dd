use Rattle.std.proofs.Common.{◌≡◌, [], drop, map}
use Rattle.campl_tree.specs.View.{view_link}
use Rattle.campl_types.specs.Headers.{link_names}
use Rattle.campl_names.specs.Scope.{with_names}
use Rattle.campl_linear.specs.Plugs.{links_are_new}
use Rattle.campl_held.specs.Slots.{view_held}
use Rattle.campl_plug_heads.proofs.links.links_are_new.Given as goal

abbrev pub invariant-loop-i : goal.invariant-loop-i
invariant-loop-i l =
    (links_are_new (view_held l.held) l.seen (map view_link (drop l.i l.links)) ≡ links_are_new (view_held l.held) [] (map view_link l.links))
    × (with_names l.seen (link_names (map view_link (drop l.i l.links))) ≡ with_names [] (link_names (map view_link l.links)))
