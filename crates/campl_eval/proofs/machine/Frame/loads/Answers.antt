use Rattle.std.proofs.Common.{arith, refl, ◌<◌, length}
use Rattle.campl_instructions.specs.View.{view_block}
use Rattle.campl_eval.specs.View.{seen}
use Rattle.campl_eval.proofs.Passed.{next-loaded}
use Rattle.campl_eval.proofs.machine.Frame.loads.Goals as goal

pub loop-i-preserved : goal.loop-i-preserved
loop-i-preserved c =
    let more : c.loop-i.i < length c.args.self.now.variables = omega (arith, c.loop-i-test.true, c.len-i-end.ensures) in
    next-loaded (view_block c.args.block.now) c.args.self.now.block c.args.self.now.at c.args.self.now.variables c.args.self.now.operands c.loop-i.i (seen c.args.self.now) more (c.if-not-loads_next.ensures refl) c.loop-i.invariant
