-- A receipt of ends.
use Rattle.campl_machine.proofs.Shapes.{receipt-forest}
use Rattle.campl_machine.proofs.forest.law_forest_receipt.Goals as goal

pub returns : goal.returns
returns g c same tells = receipt-forest same tells
