use Rattle.std.proofs.Common.{◌∙◌, sym, arith, ◌+◌, ◌≤◌, length, take}
use Rattle.std.proofs.lemmas.List.{at_drop_all}
use Rattle.campl_operands.proofs.RowsSet.{row_set, in-turn}
use Rattle.campl_operands.proofs.variables.Variables.stay.Goals as goal

pub returns : goal.returns
returns c =
    let behind : length c.args.spots.now ≤ c.loop-i.i = omega (arith, c.loop-i-test.false) in
    λ _. in-turn (take c.args.width c.args.self.now) c.args.spots.now c.args.first c.args.self.now ∙ sym c.loop-i.invariant
    ∙ at_drop_all (λ s. row_set (take c.args.width c.args.self.now) s (c.args.first + c.loop-i.i) c.args.self.now) c.args.spots.now c.loop-i.i behind
