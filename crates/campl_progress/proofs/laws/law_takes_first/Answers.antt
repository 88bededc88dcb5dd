use Rattle.campl_progress.proofs.Takes.{takes-first}
use Rattle.campl_progress.proofs.laws.law_takes_first.Goals as goal

pub returns : goal.returns
returns c = takes-first
