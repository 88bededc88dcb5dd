use Rattle.campl_laws.proofs.OneRun.{some-run, only-run}
use Rattle.campl_laws.proofs.laws.law_one_run.Goals as goal

pub returns-clause-some : goal.returns-clause-some
returns-clause-some k source scripts accepted budget = some-run source scripts budget accepted

pub returns-clause-one : goal.returns-clause-one
returns-clause-one k = only-run
