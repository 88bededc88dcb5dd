use Rattle.std.proofs.Common.{◌∙◌, ◌++◌, true, sym, ap, subst, map}
use Rattle.campl_tree.specs.View.{view_link, view_part}
use Rattle.campl_held.specs.Slots.{view_held, is_kept}
use Rattle.campl_plug_heads.specs.Heads.{ends_in, LinksStand}
use Rattle.campl_plug_heads.proofs.Shares.{stand-kept, share-is}
use Rattle.campl_plug_heads.proofs.share.share_of.Goals as goal

pub add_ends-requires : goal.add_ends-requires
add_ends-requires c =
    subst (LinksStand (map view_link c.args.links.now)) (sym c.in_ok-share.ensures) (stand-kept (map view_link c.args.links.now) (view_held c.args.held.now) (is_kept true c.in_ok-names.names) c.requires)

pub returns : goal.returns
returns c =
    c.in_ok-add_ends.ensures ∙ ap (λ s. s ++ ends_in c.in_ok-outputs.outputs c.in_ok-names.names (map view_link c.args.links.now)) c.in_ok-share.ensures
    ∙ share-is (map view_link c.args.links.now) (view_held c.args.held.now) (view_part c.args.part.now).0 c.in_ok-outputs.outputs c.in_ok-names.names c.in_ok-outputs.ensures c.in_ok-names.ensures
