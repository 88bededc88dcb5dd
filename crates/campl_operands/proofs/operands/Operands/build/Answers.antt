use Rattle.std.proofs.Common.{◌∙◌, ap, sym, arith, subst, ◌≤◌, length}
use Rattle.campl_value.specs.Tree.{built}
use Rattle.campl_code.specs.Results.{Value, Broken, TooDeep}
use Rattle.campl_operands.specs.Effects.{After, Tells, pushed}
use Rattle.campl_operands.proofs.Depths.{fitting-is, fitting-deep, built-short, built-is}
use Rattle.campl_operands.proofs.operands.Operands.build.Goals as goal

pub returns-then-n-len : goal.returns-then-n-len
returns-then-n-len c = built-short c.args.constructor c.args.n c.args.self.now (omega (arith, c.if-n-len.true, c.len.ensures))

pub returns-in-Ok-TooDeep : goal.returns-in-Ok-TooDeep
returns-in-Ok-TooDeep c =
    let h : c.args.n ≤ length c.args.self.now = omega (arith, c.if-n-len.false, c.len.ensures) in
    built-is c.args.constructor c.args.n c.args.self.now c.in-Ok.parts.items (Broken TooDeep) h (c.in-Ok.ensures.taken) (fitting-deep (built c.args.constructor c.in-Ok.parts.items) (rw c.in-Ok-TooDeep.field-0-is at c.in-Ok-TooDeep.ensures))

pub returns-in-Ok-Is : goal.returns-in-Ok-Is
returns-in-Ok-Is c =
    let h : c.args.n ≤ length c.args.self.now = omega (arith, c.if-n-len.false, c.len.ensures) in
    let made = rw c.in-Ok-Is.field-0-is at c.in-Ok-Is.ensures in
    let is = built-is c.args.constructor c.args.n c.args.self.now c.in-Ok.parts.items (Value c.in-Ok-Is.value) h (c.in-Ok.ensures.taken) (fitting-is (built c.args.constructor c.in-Ok.parts.items) made.1 ∙ ap Value (sym made.0)) in
    let rest = ap (λ s. pushed s (Value c.in-Ok-Is.value)) (c.in-Ok.ensures.rest) in
    subst (λ (a : After). Tells a c.constant.result c.constant.new.self) (rest ∙ sym is) c.constant.ensures
