use Rattle.campl_laws.proofs.Answers.{all-end, one-at-a-time-answers}
use Rattle.campl_laws.proofs.laws.law_one_at_a_time.Goals as goal

pub returns-clause-all_end : goal.returns-clause-all_end
returns-clause-all_end k source scripts raceless c n = all-end source scripts raceless.0 raceless.1 c n

pub returns-clause-such_a_run : goal.returns-clause-such_a_run
returns-clause-such_a_run k = one-at-a-time-answers
