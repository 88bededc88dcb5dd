use Rattle.campl_progress.proofs.Takes.{takes-first}
use Rattle.campl_laws.proofs.All.{met-lawful}
use Rattle.campl_laws.proofs.laws.law_takes_first.Goals as goal

pub returns : goal.returns
returns k source c met = takes-first source c (met-lawful source c met)
