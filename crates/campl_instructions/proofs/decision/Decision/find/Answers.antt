use Rattle.std.proofs.Common.{◌∙◌, ap, sym}
use Rattle.campl_code.specs.Decisions.{fits_head, value_at}
use Rattle.campl_instructions.specs.View.{view_head}
use Rattle.campl_instructions.proofs.Views.{found-fit, found-other}
use Rattle.campl_instructions.proofs.decision.Decision.find.Goals as goal

pub nodes-preserved-then-fits : goal.nodes-preserved-then-fits
nodes-preserved-then-fits c =
    let there = c.in-Test in
    let seen = ap (λ spot. fits_head (view_head there.head) (value_at c.args.values.now spot)) (sym c.as_slice-in-Test.ensures) in
    found-fit _ _ _ _ _ _ _ _ _ c.in-Some.ensures.cases.0 there.is c.from-rest.ensures (seen ∙ sym c.fits.ensures ∙ c.if-fits.true) ∙ c.nodes.invariant

pub nodes-preserved : goal.nodes-preserved
nodes-preserved c =
    let there = c.in-Test in
    let seen = ap (λ spot. fits_head (view_head there.head) (value_at c.args.values.now spot)) (sym c.as_slice-in-Test.ensures) in
    found-other _ _ _ _ _ _ _ _ _ c.in-Some.ensures.cases.0 there.is c.from-rest-else-fits.ensures (seen ∙ sym c.fits.ensures ∙ c.if-fits.false) ∙ c.nodes.invariant
