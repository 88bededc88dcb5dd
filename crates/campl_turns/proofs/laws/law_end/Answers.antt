use Rattle.campl_turns.proofs.laws.law_end.Goals as goal
use Rattle.campl_turns.proofs.Ending.{ends}

pub returns : goal.returns
returns c = ends
