use Rattle.std.proofs.Common.{arith, length, ◌≤◌}
use Rattle.std.proofs.lemmas.List.{drop_all}
use Rattle.campl_rules.proofs.Giving.{each-end}
use Rattle.campl_rules.proofs.handing.hand_each.Goals as goal

pub returns : goal.returns
returns c =
    let past : length c.args.places.now ≤ c.loop-to.to-index = omega (arith, c.loop-to-test.false) in
    each-end _ _ _ _ _ (drop_all c.loop-to.to-index c.args.places.now past) c.loop-to.invariant
