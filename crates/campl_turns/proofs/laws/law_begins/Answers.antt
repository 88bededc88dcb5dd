use Rattle.campl_turns.proofs.laws.law_begins.Goals as goal
use Rattle.campl_turns.proofs.Beginning.{begins-told}

pub returns : goal.returns
returns c = begins-told
