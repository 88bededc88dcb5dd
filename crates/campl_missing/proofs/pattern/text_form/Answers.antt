use Rattle.std.proofs.Common.{arith}
use Rattle.campl_missing.proofs.Seen.{text-end, text-before}
use Rattle.campl_missing.proofs.pattern.text_form.Goals as goal

pub loop-i-init : goal.loop-i-init
loop-i-init c = text-end c.args.text.now

pub loop-i-preserved : goal.loop-i-preserved
loop-i-preserved c =
    text-before c.args.text.now c.loop-i.i c.index-text-i.result c.loop-i.list c.in_ok-list.list (omega (arith, c.loop-i-test.true)) (omega (arith, c.loop-i.auto.i)) c.index-text-i.is c.loop-i.invariant c.in_ok-list.ensures
