use Rattle.std.proofs.Common.{◌+◌, arith, refl, ap, sym, subst}
use Rattle.campl_order.specs.Orders.{Ranked}
use Rattle.campl_order.specs.declared.order.Rank.{Rank}
use Rattle.campl_order.proofs.Earlier.{child-ranked}
use Rattle.campl_order.proofs.order.Order.bear.Goals as goal

pub returns-clause-ranked : goal.returns-clause-ranked
returns-clause-ranked c names r child =
    let rs = c.args.self.now.ranks.items in
    let new : Rank = record { depth = c.rank-above.result.depth + 1; parent = c.args.parent; jump = c.far-jump.result; born = c.args.born } in
    subst (Ranked names) (sym c.push_reserved.ensures.items)
    (child-ranked names rs r c.args.parent c.args.born new (let h = c.requires.parent in omega (arith, h)) c.requires.process (let h = c.requires.few in omega (arith, h)) child (ap (λ (x : Rank). x.depth + 1) c.rank-above.ensures) refl refl c.far-jump.ensures)
