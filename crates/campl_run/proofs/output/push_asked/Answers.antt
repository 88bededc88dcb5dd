use Rattle.std.proofs.Common.{ap, ◌∙◌}
use Rattle.campl_run.specs.Printed.{is_asked}
use Rattle.campl_run.proofs.Lining.{asked-next, asked-skipped}
use Rattle.campl_run.proofs.output.push_asked.Goals as goal
use Rattle.campl_run.proofs.output.push_asked.Goals.{then-is_asked+in_ok-push_name, else-is_asked}

pub loop-i-preserved : goal.loop-i-preserved
loop-i-preserved c =
    let told = c.is_asked.ensures ∙ ap is_asked c.service_at.ensures in
    elim c.if-is_asked.branch [
      | then-is_asked+in_ok-push_name w ↦
          asked-next _ _ _ c.loop-i.is_first c.if-is_asked.is_first c.is_asked.result c.loop-i.i c.index-names-i.result c.args.names.now c.args.processes.now
          c.loop-i-test.true c.index-names-i.is c.loop-i.invariant told w.if-is_asked.true (ap (λ v. v.items) w.output-is ∙ w.in_ok-push_name.ensures) w.is_first-is
      | else-is_asked w ↦
          asked-skipped _ _ _ c.loop-i.is_first c.if-is_asked.is_first c.is_asked.result c.loop-i.i c.index-names-i.result c.args.names.now c.args.processes.now
          c.loop-i-test.true c.index-names-i.is c.loop-i.invariant told w.if-is_asked.false (ap (λ v. v.items) w.output-is) w.is_first-is
    ]
