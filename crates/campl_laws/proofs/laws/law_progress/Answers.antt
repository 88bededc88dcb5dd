use Rattle.campl_progress.proofs.Walk.{progress}
use Rattle.campl_laws.proofs.All.{met-lawful}
use Rattle.campl_laws.proofs.laws.law_progress.Goals as goal

pub returns : goal.returns
returns k source c met = progress source c (met-lawful source c met)
