use Rattle.campl_progress.proofs.Takes.{never-wrong}
use Rattle.campl_laws.proofs.All.{met-lawful}
use Rattle.campl_laws.proofs.laws.law_never_wrong.Goals as goal

pub returns : goal.returns
returns k source c met = never-wrong source c (met-lawful source c met)
