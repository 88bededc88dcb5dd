use Rattle.campl_kept_quiet.proofs.Whole.{keeps-work, quiet-kept}
use Rattle.campl_kept_quiet.proofs.laws.law_quiet.Goals as goal

pub returns-clause-work : goal.returns-clause-work
returns-clause-work k source c d p x l r e = keeps-work source c d p x l r e

pub returns-clause-commands : goal.returns-clause-commands
returns-clause-commands k source c d p r body l is t q g = quiet-kept source c d p r body l is t q g
