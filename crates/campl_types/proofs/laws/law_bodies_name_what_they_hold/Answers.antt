use Rattle.campl_types.proofs.FreeNames.{names-held}
use Rattle.campl_types.proofs.laws.law_bodies_name_what_they_hold.Goals as goal

pub returns : goal.returns
returns c = names-held
