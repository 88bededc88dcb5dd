use Rattle.campl_evaluation.proofs.Longer.{one-more}
use Rattle.campl_evaluation.proofs.laws.law_budget.Goals as goal

pub returns : goal.returns
returns c = one-more
