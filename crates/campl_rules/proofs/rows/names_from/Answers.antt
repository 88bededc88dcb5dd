use Rattle.std.proofs.Common.{◌≡◌, ◌∙◌, ◌+◌, ◌-◌, ap, drop, arith}
use Rattle.campl_rules.proofs.Trees.{names-more}
use Rattle.campl_rules.proofs.rows.names_from.Goals as goal

pub loop-at-preserved : goal.loop-at-preserved
loop-at-preserved c =
    let at = c.loop-at.at in
    let one-less : at - 1 + 1 ≡ at = omega (arith, c.loop-at-test.true) in
    names-more c.args.bound.now c.args.nodes.now c.loop-at.named.items c.from.result.now (at - 1) at c.index-nodes-at.result c.names_at.result one-less c.loop-at.invariant c.index-nodes-at.is
    (c.from.ensures ∙ ap (drop (at - 1 + 1)) c.as_slice.ensures.value) c.names_at.ensures
