use Rattle.campl_turns.proofs.laws.law_alone.Goals as goal
use Rattle.campl_turns.proofs.Alone.{lonely}

pub returns : goal.returns
returns c = lonely
