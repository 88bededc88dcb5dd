use Rattle.campl_laws.proofs.Answers.{same-budget, one-answer, one-output, goes-on}
use Rattle.campl_laws.proofs.laws.law_one_answer.Goals as goal

pub returns-clause-one_end : goal.returns-clause-one_end
returns-clause-one_end k source scripts raceless = one-answer source scripts raceless.0 raceless.1

pub returns-clause-one_output : goal.returns-clause-one_output
returns-clause-one_output k source scripts raceless = one-output source scripts raceless.0 raceless.1

pub returns-clause-goes_on : goal.returns-clause-goes_on
returns-clause-goes_on k source scripts raceless = goes-on source scripts raceless.0 raceless.1

pub returns-clause-same_budget : goal.returns-clause-same_budget
returns-clause-same_budget k source scripts raceless = same-budget source scripts raceless.0 raceless.1
