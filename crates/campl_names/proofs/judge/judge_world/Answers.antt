use Rattle.campl_names.proofs.Judged.{handed-on, passed-on}
use Rattle.campl_names.proofs.judge.judge_world.Goals as goal

pub returns-in-Ok-clause-judged : goal.returns-in-Ok-clause-judged
returns-in-Ok-clause-judged c = passed-on _ _ _ c.in-Ok.ensures

pub returns-in-Err-clause-judged : goal.returns-in-Err-clause-judged
returns-in-Err-clause-judged c = handed-on _ _ c.in-Err.ensures
