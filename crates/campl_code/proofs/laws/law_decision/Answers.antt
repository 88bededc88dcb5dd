use Rattle.campl_code.proofs.Flattened.{decision-stands}
use Rattle.campl_code.proofs.laws.law_decision.Goals as goal

pub returns : goal.returns
returns c = decision-stands
