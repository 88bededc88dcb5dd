use Rattle.std.proofs.Common.{◌≡◌, ◌∙◌, ap, sym, arith, ◌++◌, [], ◌∷◌, suc, ◌+◌, take, drop, ℕ}
use Rattle.campl_operands.proofs.Tops.{top-next, top-none}
use Rattle.campl_operands.proofs.operands.Operands.move_top.Goals as goal

pub returns-in_default : goal.returns-in_default
returns-in_default c = absurd (top-none c.loop-i._i c.args.self.now (sym c.loop-i.invariant.rest ∙ c.in_default.ensures.0) (omega (arith, c.loop-i-test.true, c.requires.there)))

pub loop-i-preserved : goal.loop-i-preserved
loop-i-preserved c =
    let h = top-next c.loop-i._i c.args.self.now c.in-Some.value c.pop.new.self (sym c.loop-i.invariant.rest ∙ c.in-Some.ensures) in
    let n : suc c.loop-i._i ≡ c.loop-i._i + 1 = omega arith in
    record {
      moved = c.in_ok-push_moved.ensures ∙ ap (λ l. l ++ c.in-Some.value ∷ []) c.loop-i.invariant.moved ∙ sym h.0 ∙ ap (λ (k : ℕ). take k c.args.self.now) n;
      rest = sym h.1 ∙ ap (λ (k : ℕ). drop k c.args.self.now) n;
    }
