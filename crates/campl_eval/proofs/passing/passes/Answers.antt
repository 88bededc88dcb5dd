use Rattle.std.proofs.Common.{◌≡◌, arith, refl, sym}
use Rattle.campl_instructions.specs.View.{view_decision}
use Rattle.campl_eval.proofs.Passed.{pass-on}
use Rattle.campl_eval.proofs.passing.passes.Goals as goal

pub returns-in-Some-item_at : goal.returns-in-Some-item_at
returns-in-Some-item_at c =
    let first = c.in-Some.ensures in
    let width : c.args.decision.now.width ≡ c.args.n = omega (arith, c.if-decision-n.false) in
    pass-on (view_decision c.args.decision.now) c.args.variables.now c.args.first c.in-Some-find.row c.in-Some-item_at.to.now c.args.places.now c.in-Some-find.spots.now c.args.n
    width first.0 (rw first.1 at c.in-Some-find.ensures) (c.if-not-stay.ensures refl) (sym (rw c.in-Some-item_at.is at c.at.ensures))
