use Rattle.std.proofs.Common.{◌∙◌, ap, sym, map, arith}
use Rattle.campl_tree.specs.View.{view_link, parts}
use Rattle.campl_gen_channels.specs.Orders.{view_part_at}
use Rattle.campl_gen_channels.specs.View.{view_channels}
use Rattle.campl_gen_bodies.specs.Peels.{children_built, peels_built, left_links, heaviest_child}
use Rattle.campl_gen_bodies.specs.View.{view_making, view_child}
use Rattle.campl_gen_bodies.proofs.Peeled.{peels-begin, order-at, part-light, still-light, all-peeled, rest-slice}
use Rattle.campl_gen_bodies.proofs.peels.peel_all.Goals as goal

pub parts-init : goal.parts-init
parts-init c =
    record {
      built = λ w. peels-begin w (map view_link c.args.links.now) c.in_ok-peeling.peeling.used (map view_child c.in_ok-peeling.peeling.children) c.args.order.now c.args.held.now.next c.in_ok-peeling.peeling.rest.next
          (view_channels c.args.held.now) (view_channels c.in_ok-peeling.peeling.rest) (view_making c.args.making.now) c.in_ok-peeling.ensures.used c.in_ok-peeling.ensures.children c.in_ok-peeling.ensures.next c.in_ok-peeling.ensures.rest;
      light = let h = ap heaviest_child c.in_ok-peeling.ensures.children in omega (arith, h);
      within = omega arith;
    }

pub parts-preserved : goal.parts-preserved
parts-preserved c =
    record {
      built = λ w.
          ap (λ d. children_built w (map view_child c.peel.new.peeling.children) (peels_built w (left_links c.peel.new.peeling.used (map view_link c.args.links.now)) (parts (map view_part_at d)) c.peel.new.peeling.rest.next (view_channels c.peel.new.peeling.rest) (view_making c.peel.new.making)))
          (rest-slice c.args.order.now c.parts.at)
          ∙ c.in_ok-peel.ensures.built w
          ∙ ap (λ p. children_built w (map view_child c.parts.peeling.children) (peels_built w (left_links c.parts.peeling.used (map view_link c.args.links.now)) p c.parts.peeling.rest.next (view_channels c.parts.peeling.rest) (view_making c.parts.making)))
          (sym (order-at c.args.order.now c.parts.at c.index-order-at.result (omega (arith, c.parts-test.true)) c.index-order-at.is))
          ∙ c.parts.invariant.built w;
      light = rw c.in_ok-peel.ensures.light
          (still-light _ _ _ c.parts.invariant.light (part-light c.args.order.now c.parts.at c.index-order-at.result (omega (arith, c.parts-test.true)) c.index-order-at.is));
      within = omega (arith, c.parts-test.true);
    }

pub returns-clause-built : goal.returns-clause-built
returns-clause-built c =
    λ w.
    ap (λ d. children_built w (map view_child c.parts.peeling.children) (peels_built w (left_links c.parts.peeling.used (map view_link c.args.links.now)) (parts (map view_part_at d)) c.parts.peeling.rest.next (view_channels c.parts.peeling.rest) (view_making c.parts.making)))
    (all-peeled c.args.order.now c.parts.at (omega (arith, c.parts-test.false)) c.parts.invariant.within)
    ∙ c.parts.invariant.built w
