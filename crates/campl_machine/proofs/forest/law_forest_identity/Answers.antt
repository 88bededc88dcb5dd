-- An identity.
use Rattle.campl_machine.proofs.IdentityForest.{identity-forest}
use Rattle.campl_machine.proofs.forest.law_forest_identity.Goals as goal

pub returns : goal.returns
returns g c = identity-forest
