use Rattle.campl_kept_quiet.proofs.Begins.{begins}
use Rattle.campl_kept_quiet.proofs.laws.law_begins.Goals as goal

pub returns : goal.returns
returns k source scripts accepted = begins source scripts accepted
