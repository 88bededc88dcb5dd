use Rattle.campl_held.specs.Slots.{is_outside}
use Rattle.campl_held.proofs.Slots.{those-passed, those-first, those-none}
use Rattle.campl_held.proofs.held.first_slot.Goals as goal

pub loop-i-preserved : goal.loop-i-preserved
loop-i-preserved c =
    those-passed (is_outside c.args.inputs.now c.args.outputs.now) c.args.slots.now c.loop-i.i c.index-slots-i.result c.loop-i-test.true c.index-slots-i.is c.in-None.ensures c.loop-i.invariant

pub returns-in-Some : goal.returns-in-Some
returns-in-Some c =
    those-first (is_outside c.args.inputs.now c.args.outputs.now) c.args.slots.now c.loop-i.i c.index-slots-i.result _ c.loop-i-test.true c.index-slots-i.is c.in-Some.ensures c.loop-i.invariant

pub returns : goal.returns
returns c = those-none (is_outside c.args.inputs.now c.args.outputs.now) c.args.slots.now c.loop-i.i c.loop-i-test.false c.loop-i.invariant
