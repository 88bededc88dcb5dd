-- Removal.
use Rattle.campl_machine.proofs.Shapes.{removal}
use Rattle.campl_machine.proofs.forest.law_removal.Goals as goal

pub returns : goal.returns
returns g c same tells = removal same tells
