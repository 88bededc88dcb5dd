use Rattle.std.proofs.Common.{◌∙◌, sym}
use Rattle.campl_held.specs.Slots.{view_held}
use Rattle.campl_plug_heads.proofs.Turns.{went, halted, new-at, new-end, seen-at, seen-end}
use Rattle.campl_plug_heads.proofs.links.links_are_new.Goals as goal

pub loop-i-preserved : goal.loop-i-preserved
loop-i-preserved c =
    rw c.in-Ok-add.ensures (
      went _ _ _ _ _ c.in-Ok.ensures (new-at (view_held c.args.held.now) c.args.links.now c.loop-i.i c.loop-i.seen c.index-links-i.result c.loop-i-test.true c.index-links-i.is) c.loop-i.invariant.0,
      seen-at c.args.links.now c.loop-i.i c.loop-i.seen c.index-links-i.result c.loop-i-test.true c.index-links-i.is ∙ c.loop-i.invariant.1,
    )

pub returns-in-Err-clause-judged : goal.returns-in-Err-clause-judged
returns-in-Err-clause-judged c =
    halted _ _ _ _ _ c.in-Err.ensures (new-at (view_held c.args.held.now) c.args.links.now c.loop-i.i c.loop-i.seen c.index-links-i.result c.loop-i-test.true c.index-links-i.is) c.loop-i.invariant.0

pub returns-clause-judged : goal.returns-clause-judged
returns-clause-judged c = sym c.loop-i.invariant.0 ∙ new-end (view_held c.args.held.now) c.args.links.now c.loop-i.i c.loop-i.seen c.loop-i-test.false

pub returns-clause-names : goal.returns-clause-names
returns-clause-names c = sym (seen-end c.args.links.now c.loop-i.i c.loop-i.seen c.loop-i-test.false) ∙ c.loop-i.invariant.1
