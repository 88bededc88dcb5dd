use Rattle.campl_turns.proofs.laws.law_services.Goals as goal
use Rattle.campl_turns.proofs.Ending.{service-told}

pub returns : goal.returns
returns c = service-told
