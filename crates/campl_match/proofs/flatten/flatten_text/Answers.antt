use Rattle.std.proofs.lemmas.Result.{on_ok_weaker}
use Rattle.campl_match.proofs.Flattening.{letter-went, text-ended}
use Rattle.campl_match.proofs.flatten.flatten_text.Goals as goal

pub loop-c-preserved : goal.loop-c-preserved
loop-c-preserved c = letter-went _ _ _ c.args.text.now c.loop-c.c-index c.c-item.result _ _ _ c.loop-c-test.true c.c-item.is c.as_slice.ensures c.in_ok-push.ensures.ok c.in_ok-flatten_letter.ensures c.loop-c.invariant

pub returns : goal.returns
returns c = on_ok_weaker _ (text-ended _ _ c.args.text.now c.loop-c.c-index _ _ _ c.loop-c-test.false c.as_slice-2.ensures c.loop-c.invariant) c.ask.ensures
