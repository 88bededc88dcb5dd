use Rattle.std.proofs.Common.{◌∙◌, ap, map}
use Rattle.campl_tree.specs.View.{view_link, view_part}
use Rattle.campl_gen_channels.specs.View.{view_channels}
use Rattle.campl_gen_bodies.specs.View.{view_making, view_child}
use Rattle.campl_gen_bodies.proofs.Peeled.{peel-so, heaviest-so, map-more}
use Rattle.campl_gen_bodies.proofs.peels.peel.Goals as goal

pub returns-clause-built : goal.returns-clause-built
returns-clause-built c =
    λ w.
    peel-so w (map view_link c.args.links.now) c.args.peeling.now.used c.add.new.self c.in_ok-name.name (view_part c.args.part.now).0 (view_part c.args.part.now).1 c.args.behind.now c.args.peeling.now.rest.next c.divide.new.rest.next
    (view_channels c.args.peeling.now.rest) (view_channels c.divide.new.rest) (view_making c.args.making.now) (view_making c.push.new.self) (map view_child c.args.peeling.now.children) (map view_child c.push-2.new.self) (view_child c.in_ok-child.child)
    c.requires c.in_ok-name.ensures c.in_ok-add.ensures c.in_ok-child.ensures.rest_next c.in_ok-child.ensures.rest c.in_ok-push.ensures (ap (map view_child) c.in_ok-push-2.ensures.ok ∙ map-more view_child c.args.peeling.now.children c.in_ok-child.child)
    (c.in_ok-child.ensures.at ∙ c.len-at.ensures) c.in_ok-child.ensures.channel c.in_ok-child.ensures.side (ap (λ p. (view_part p).1) c.in_ok-child.ensures.part) c.in_ok-child.ensures.next c.in_ok-child.ensures.held

pub returns-clause-light : goal.returns-clause-light
returns-clause-light c =
    heaviest-so (map view_child c.args.peeling.now.children) (map view_child c.push-2.new.self) (view_child c.in_ok-child.child) (view_part c.args.part.now).1
    (ap (map view_child) c.in_ok-push-2.ensures.ok ∙ map-more view_child c.args.peeling.now.children c.in_ok-child.child) (ap (λ p. (view_part p).1) c.in_ok-child.ensures.part)
