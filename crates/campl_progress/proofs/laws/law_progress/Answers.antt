use Rattle.campl_progress.proofs.Walk.{progress}
use Rattle.campl_progress.proofs.laws.law_progress.Goals as goal

pub returns : goal.returns
returns c = progress
