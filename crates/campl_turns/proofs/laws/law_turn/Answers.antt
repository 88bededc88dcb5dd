use Rattle.campl_turns.proofs.laws.law_turn.Goals as goal
use Rattle.campl_turns.proofs.Turning.{turns}

pub returns : goal.returns
returns c = turns
