use Rattle.campl_meaning.proofs.OneAnswer.{answer, one-at-a-time}
use Rattle.campl_meaning.proofs.laws.law_one_answer.Goals as goal

pub returns-clause-any_order : goal.returns-clause-any_order
returns-clause-any_order c source quiet kept accepted scripts = answer source quiet kept accepted scripts

pub returns-clause-one_at_a_time : goal.returns-clause-one_at_a_time
returns-clause-one_at_a_time c source quiet kept accepted scripts = one-at-a-time source quiet kept accepted scripts
