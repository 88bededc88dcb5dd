use Rattle.std.proofs.Common.{arith}
use Rattle.campl_missing.proofs.Seen.{elements-end, elements-before}
use Rattle.campl_missing.proofs.pattern.+form.Goals as goal

pub element_forms-loop-i-init : goal.element_forms-loop-i-init
element_forms-loop-i-init t c = elements-end c.args.ps.now

pub element_forms-loop-i-preserved : goal.element_forms-loop-i-preserved
element_forms-loop-i-preserved t c =
    elements-before c.args.ps.now c.loop-i.i c.index-ps-i.result c.in_ok-form_of.field-0 c.loop-i.list c.in_ok-list.list (omega (arith, c.loop-i-test.true)) (omega (arith, c.loop-i.auto.i)) c.index-ps-i.is c.loop-i.invariant c.in_ok-form_of.ensures c.in_ok-list.ensures
