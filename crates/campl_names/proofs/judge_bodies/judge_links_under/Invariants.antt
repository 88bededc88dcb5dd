use Rattle.std.proofs.Common.{◌≡◌, None, drop, map}
use Rattle.campl_tree.specs.Plain.Process.{Link}
use Rattle.campl_tree.specs.View.{view_link, view_decl}
use Rattle.campl_types.specs.Known.{each, in_chan}
use Rattle.campl_names.specs.Scope.{heading}
use Rattle.campl_names.proofs.judge_bodies.judge_links_under.Given as goal

abbrev pub invariant-loop-link : goal.invariant-loop-link
invariant-loop-link l =
    each (λ (k : Link). in_chan (map view_decl l.world) (heading l.parameters None) k.channel_type) (map view_link (drop l.link-index l.links))
    ≡ each (λ (k : Link). in_chan (map view_decl l.world) (heading l.parameters None) k.channel_type) (map view_link l.links)
