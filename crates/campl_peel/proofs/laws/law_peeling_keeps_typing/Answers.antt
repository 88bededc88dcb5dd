use Rattle.campl_peel.proofs.Steps.{peeling-keeps-typing, peel-takes-last}
use Rattle.campl_peel.proofs.laws.law_peeling_keeps_typing.Goals as goal

pub returns : goal.returns
returns c = record { keeps = peeling-keeps-typing; last = peel-takes-last }
