use Rattle.campl_service.proofs.Actions.{exactly, grows}
use Rattle.campl_service.proofs.laws.law_actions.Goals as goal

pub returns-clause-exactly : goal.returns-clause-exactly
returns-clause-exactly c s given = exactly s.phase s given

pub returns-clause-kind : goal.returns-clause-kind
returns-clause-kind c s t given sent is = (grows s.phase s t given sent is).0

pub returns-clause-grows : goal.returns-clause-grows
returns-clause-grows c s t given sent is = (grows s.phase s t given sent is).1
