use Rattle.std.proofs.Common.{arith}
use Rattle.campl_missing.proofs.Forms.{anythings-pushed}
use Rattle.campl_missing.proofs.form.anythings.Goals as goal

pub loop-forms-preserved : goal.loop-forms-preserved
loop-forms-preserved c =
    anythings-pushed c.loop-forms.forms c.push.new.self c.args.count c.loop-forms.invariant.0 c.in_ok-push.ensures.ok (omega (arith, c.loop-forms-test.true, c.len.ensures))
