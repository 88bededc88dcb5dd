use Rattle.std.proofs.Common.{◌≡◌, ◌-◌, length, sym, ap, ◌∙◌, refl, arith}
use Rattle.std.proofs.lemmas.List.{length-reverse}
use Rattle.campl_operands.proofs.Tops.{cut, parts}
use Rattle.campl_operands.proofs.operands.Operands.drop_top.Goals as goal

pub returns : goal.returns
returns c =
    let long : length c.args.self.now ≡ length c.self.inside.items.items = ap length (sym c.self.view_is) ∙ length-reverse c.self.inside.items.items in
    let at : c.len.result - c.args.n ≡ length c.args.self.now - c.args.n = omega (arith, long, c.len.ensures) in
    let h = parts _ _ _ _ (cut _ _ _ _ _ _ c.requires at c.self.view_is refl c.truncate.ensures.items) in
    h.1
