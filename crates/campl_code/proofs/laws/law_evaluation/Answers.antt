use Rattle.campl_code.proofs.Runs.{follows}
use Rattle.campl_code.proofs.laws.law_evaluation.Goals as goal

pub returns : goal.returns
returns c = follows
