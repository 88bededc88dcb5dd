use Rattle.std.proofs.Common.{◌≡◌, ◌∙◌, ◌<◌, ap, arith, length, take}
use Rattle.std.specs.Prelude.{option_map, slice_set}
use Rattle.campl_code.specs.Decisions.{Spot, value_at}
use Rattle.campl_operands.proofs.RowsSet.{set_same}
use Rattle.campl_operands.proofs.variables.Variables.stays.Goals as goal

pub returns : goal.returns
returns c =
    let vs = c.args.self.now in
    let same : c.in-Some.k ≡ c.args.n = omega (arith, c.if-k-n.false) in
    let first : c.args.n < c.args.width = omega (arith, c.if-n-width.false) in
    let there : c.args.n < length vs = omega (arith, c.if-n-len.false, c.len.ensures) in
    λ _. ap (λ (s : Spot). option_map (slice_set vs c.args.n) (value_at (take c.args.width vs) s)) c.in-Some.ensures ∙ set_same vs c.args.width c.args.n c.in-Some.k same first there
