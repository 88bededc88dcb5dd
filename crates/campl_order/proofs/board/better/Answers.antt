use Rattle.std.proofs.Common.{◌∙◌, sym, ap, ap₂, Some, Bool, if◌then◌else◌}
use Rattle.campl_order.specs.Boards.{better, earlier}
use Rattle.campl_order.proofs.board.better.Goals as goal

pub returns-then-is_before-clause-first : goal.returns-then-is_before-clause-first
returns-then-is_before-clause-first c names r =
    let t = sym (c.is_before.ensures names r) ∙ c.if-is_before.true in
    ap (λ (b : Bool). if b then Some c.in-Some-b.j else Some c.in-Some.i) (sym t) ∙ ap₂ (better (earlier names)) (sym c.in-Some.is) (sym c.in-Some-b.is)

pub returns-else-is_before-clause-first : goal.returns-else-is_before-clause-first
returns-else-is_before-clause-first c names r =
    let t = sym (c.is_before.ensures names r) ∙ c.if-is_before.false in
    ap (λ (b : Bool). if b then Some c.in-Some-b.j else Some c.in-Some.i) (sym t) ∙ ap₂ (better (earlier names)) (sym c.in-Some.is) (sym c.in-Some-b.is)
