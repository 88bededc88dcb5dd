use Rattle.campl_progress.proofs.Takes.{never-wrong}
use Rattle.campl_progress.proofs.laws.law_never_wrong.Goals as goal

pub returns : goal.returns
returns c = never-wrong
