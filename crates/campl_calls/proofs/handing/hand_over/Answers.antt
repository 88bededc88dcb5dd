use Rattle.std.proofs.Common.{◌∙◌, sym, arith}
use Rattle.campl_held.specs.Slots.{view_held}
use Rattle.campl_held.proofs.Turns.{loop-went, loop-stopped}
use Rattle.campl_calls.proofs.Handed.{handed-at, handed-end}
use Rattle.campl_calls.proofs.handing.hand_over.Goals as goal

pub loop-i-preserved : goal.loop-i-preserved
loop-i-preserved c =
    loop-went _ _ _ _ _ c.in-Ok.ensures
    (handed-at c.args.side c.args.names.now c.args.types.now c.loop-i.i (view_held c.loop-i.held) c.index-names-i.result c.index-types-i.result (omega (arith, c.loop-i-test.true)) c.index-names-i.is c.index-types-i.is)
    c.loop-i.invariant

pub returns-in-Err : goal.returns-in-Err
returns-in-Err c =
    loop-stopped _ _ _ _ _ c.in-Err.ensures
    (handed-at c.args.side c.args.names.now c.args.types.now c.loop-i.i (view_held c.loop-i.held) c.index-names-i.result c.index-types-i.result (omega (arith, c.loop-i-test.true)) c.index-names-i.is c.index-types-i.is)
    c.loop-i.invariant

pub returns : goal.returns
returns c = sym c.loop-i.invariant ∙ handed-end c.args.side c.args.names.now c.args.types.now c.loop-i.i (view_held c.loop-i.held) (omega (arith, c.loop-i-test.false))
