use Rattle.std.proofs.Common.{◌≡◌, drop, map}
use Rattle.campl_tree.specs.View.{view_link}
use Rattle.campl_types.specs.Headers.{link_names}
use Rattle.campl_names.specs.Scope.{with_names}
use Rattle.campl_free.proofs.names.bind_links.Given as goal

abbrev pub invariant-loop-link : goal.invariant-loop-link
invariant-loop-link l = with_names l.bound (link_names (map view_link (drop l.link-index l.links))) ≡ with_names l.initial.bound (link_names (map view_link l.links))
