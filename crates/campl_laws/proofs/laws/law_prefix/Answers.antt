use Rattle.campl_laws.proofs.Answers.{beginning, two-beginnings}
use Rattle.campl_laws.proofs.laws.law_prefix.Goals as goal

pub returns-clause-of_answer : goal.returns-clause-of_answer
returns-clause-of_answer k source scripts raceless = beginning source scripts raceless.0 raceless.1

pub returns-clause-of_two : goal.returns-clause-of_two
returns-clause-of_two k source scripts raceless = two-beginnings source scripts raceless.0 raceless.1
