use Rattle.std.proofs.Common.{◌≡◌, ◌∙◌, subst, sym, arith, suc, ◌+◌, ◌<◌, ◌≤◌, length, drop, None}
use Rattle.std.specs.Prelude.{get_or, option_map, slice_set}
use Rattle.std.proofs.lemmas.List.{at_drop_all, at_drop_more}
use Rattle.campl_code.specs.Decisions.{Spot, value_at}
use Rattle.campl_operands.proofs.RowsSet.{row_set, none-set, in-turn}
use Rattle.campl_operands.proofs.variables.Variables.put_row.Goals as goal

pub returns-in-Missing : goal.returns-in-Missing
returns-in-Missing c =
    let vs = c.args.values.now in
    let spots = c.args.spots.now in
    let here : c.loop-i.i < length spots = omega (arith, c.loop-i-test.true) in
    let missing : option_map (slice_set c.loop-i.self (c.args.first + c.loop-i.i)) (value_at vs (get_or spots c.loop-i.i c.index-spots-i.result)) ≡ None = subst (λ (s : Spot). option_map (slice_set c.loop-i.self (c.args.first + c.loop-i.i)) (value_at vs s) ≡ None) (c.as_slice.ensures ∙ c.index-spots-i.is) c.in-Missing.ensures in
    in-turn vs spots c.args.first c.args.self.now ∙ sym c.loop-i.invariant
    ∙ at_drop_more (λ s. row_set vs s (c.args.first + c.loop-i.i) c.loop-i.self) spots c.loop-i.i c.index-spots-i.result here
    ∙ none-set (value_at vs (get_or spots c.loop-i.i c.index-spots-i.result)) (row_set vs (drop (c.loop-i.i + 1) spots) (suc (c.args.first + c.loop-i.i))) (c.args.first + c.loop-i.i) c.loop-i.self missing

pub returns : goal.returns
returns c =
    let behind : length c.args.spots.now ≤ c.loop-i.i = omega (arith, c.loop-i-test.false) in
    in-turn c.args.values.now c.args.spots.now c.args.first c.args.self.now ∙ sym c.loop-i.invariant
    ∙ at_drop_all (λ s. row_set c.args.values.now s (c.args.first + c.loop-i.i) c.loop-i.self) c.args.spots.now c.loop-i.i behind
