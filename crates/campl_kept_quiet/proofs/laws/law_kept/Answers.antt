use Rattle.campl_kept_quiet.proofs.Whole.{kept}
use Rattle.campl_kept_quiet.proofs.laws.law_kept.Goals as goal

pub returns : goal.returns
returns k o source = kept o source
