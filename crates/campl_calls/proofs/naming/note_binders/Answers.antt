use Rattle.std.proofs.Common.{◌∙◌, sym}
use Rattle.campl_held.proofs.Turns.{loop-went, loop-stopped}
use Rattle.campl_calls.proofs.Noted.{binder-at, binder-end}
use Rattle.campl_calls.proofs.naming.note_binders.Goals as goal

pub loop-i-preserved : goal.loop-i-preserved
loop-i-preserved c = loop-went _ _ _ _ _ c.in-Ok.ensures (binder-at c.loop-i.names c.args.binders.now c.loop-i.i c.index-binders-i.result c.loop-i-test.true c.index-binders-i.is) c.loop-i.invariant

pub returns-in-Err : goal.returns-in-Err
returns-in-Err c = loop-stopped _ _ _ _ _ c.in-Err.ensures (binder-at c.loop-i.names c.args.binders.now c.loop-i.i c.index-binders-i.result c.loop-i-test.true c.index-binders-i.is) c.loop-i.invariant

pub returns : goal.returns
returns c = sym c.loop-i.invariant ∙ binder-end c.loop-i.names c.args.binders.now c.loop-i.i c.loop-i-test.false
