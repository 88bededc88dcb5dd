-- Splitting.
use Rattle.campl_machine.proofs.Shapes.{splitting}
use Rattle.campl_machine.proofs.forest.law_splitting.Goals as goal

pub returns : goal.returns
returns g c same tells = splitting same tells
