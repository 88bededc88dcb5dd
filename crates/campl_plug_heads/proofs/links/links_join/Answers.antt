use Rattle.std.proofs.Common.{◌∙◌, sym}
use Rattle.campl_plug_heads.proofs.Turns.{went, halted, join-at, join-end}
use Rattle.campl_plug_heads.proofs.links.links_join.Goals as goal

pub loop-i-preserved : goal.loop-i-preserved
loop-i-preserved c =
    went _ _ _ _ _ c.in-Ok.ensures (join-at c.args.ends.now.inputs c.args.ends.now.outputs c.args.links.now c.loop-i.i c.index-links-i.result c.loop-i-test.true c.index-links-i.is) c.loop-i.invariant

pub returns-in-Err : goal.returns-in-Err
returns-in-Err c =
    halted _ _ _ _ _ c.in-Err.ensures (join-at c.args.ends.now.inputs c.args.ends.now.outputs c.args.links.now c.loop-i.i c.index-links-i.result c.loop-i-test.true c.index-links-i.is) c.loop-i.invariant

pub returns : goal.returns
returns c = sym c.loop-i.invariant ∙ join-end c.args.ends.now.inputs c.args.ends.now.outputs c.args.links.now c.loop-i.i c.loop-i-test.false
