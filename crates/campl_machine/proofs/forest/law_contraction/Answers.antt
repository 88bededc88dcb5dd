-- Contraction.
use Rattle.campl_machine.proofs.Shapes.{contraction}
use Rattle.campl_machine.proofs.forest.law_contraction.Goals as goal

pub returns : goal.returns
returns g c same tells = contraction same tells
