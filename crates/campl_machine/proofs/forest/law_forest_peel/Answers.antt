-- A peel.
use Rattle.campl_machine.proofs.Shapes.{peel-forest}
use Rattle.campl_machine.proofs.forest.law_forest_peel.Goals as goal

pub returns : goal.returns
returns g c same tells = peel-forest same tells
