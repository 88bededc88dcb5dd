-- Ends that are given up.
use Rattle.campl_machine.proofs.Shapes.{gives-up-forest}
use Rattle.campl_machine.proofs.forest.law_forest_given_up.Goals as goal

pub returns : goal.returns
returns g c same tells = gives-up-forest same tells
