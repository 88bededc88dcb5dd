use Rattle.campl_types.specs.World.{world_of}
use Rattle.campl_meaning.proofs.OneAnswer.{both}
use Rattle.campl_laws.proofs.All.{met-lawful}
use Rattle.campl_laws.proofs.Answers.{one-result}
use Rattle.campl_laws.proofs.laws.law_diamond.Goals as goal

pub returns-clause-both_orders : goal.returns-clause-both_orders
returns-clause-both_orders k source c met = let l = met-lawful source c met in both (world_of source) c l.place l.apart

pub returns-clause-one_step : goal.returns-clause-one_step
returns-clause-one_step k source scripts c raceless r = one-result source scripts raceless.0 raceless.1 c r
