use Rattle.std.proofs.Common.{arith}
use Rattle.std.proofs.lemmas.Grind.{common_steps}
use Rattle.std.proofs.lemmas.List.{take_rest}
use Rattle.campl_text.proofs.Pieces.{Appends-take}
use Rattle.campl_text.proofs.writing.write_all_of.Goals as goal

-- the next piece lengthens the front that went out
pub loop-written-preserved : goal.loop-written-preserved
loop-written-preserved g c = record {
  within = grind (arith, common_steps);
  front =
      let rest = rw take_rest at c.in-Ok.ensures.bytes in
      Appends-take _ _ _ c.args.bytes.now c.loop-written.written c.in-Ok.count c.loop-written.invariant.front rest;
  counts = omega arith;
}
