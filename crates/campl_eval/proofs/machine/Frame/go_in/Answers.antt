use Rattle.campl_eval.proofs.Leaping.{on}
use Rattle.campl_eval.proofs.machine.Frame.go_in.Goals as goal

pub loop-error-preserved : goal.loop-error-preserved
loop-error-preserved c = on _ _ _ _ c.loop-error.invariant c.in-Ok-true.ensures.within

pub returns-in-Ok-false : goal.returns-in-Ok-false
returns-in-Ok-false c = on _ _ _ _ c.loop-error.invariant c.in-Ok-false.ensures.within
