use Rattle.std.proofs.Common.{◌∙◌, sym}
use Rattle.std.proofs.lemmas.Result.{on_ok_weaker}
use Rattle.campl_match.proofs.Flattening.{part-went, parts-end, element-went, list-ended}
use Rattle.campl_match.proofs.flatten.+flatten.Goals as goal

pub flatten_parts-loop-i-preserved : goal.flatten_parts-loop-i-preserved
flatten_parts-loop-i-preserved t c = part-went _ _ c.args.ps.now c.loop-i.i c.index-ps-i.result _ _ _ c.loop-i-test.true c.index-ps-i.is c.in_ok-flatten_part.ensures c.loop-i.invariant

pub flatten_parts-returns : goal.flatten_parts-returns
flatten_parts-returns t c = sym (parts-end _ _ c.args.ps.now c.loop-i.i _ c.loop-i-test.false) ∙ c.loop-i.invariant

pub flatten_list-loop-i-preserved : goal.flatten_list-loop-i-preserved
flatten_list-loop-i-preserved t c = element-went _ _ _ _ c.args.ps.now c.loop-i.i c.index-ps-i.result _ _ _ c.loop-i-test.true c.index-ps-i.is c.as_slice.ensures c.in_ok-push.ensures.ok c.in_ok-flatten_first.ensures c.loop-i.invariant

pub flatten_list-returns : goal.flatten_list-returns
flatten_list-returns t c = on_ok_weaker _ (list-ended _ _ _ c.args.ps.now c.loop-i.i _ _ _ c.loop-i-test.false c.as_slice-2.ensures c.loop-i.invariant) c.ask.ensures
