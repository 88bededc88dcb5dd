use Rattle.campl_cells.proofs.laws.law_start.Goals as goal
use Rattle.campl_cells.proofs.StartNodes.{start-stands}

pub returns : goal.returns
returns c = λ w code g b kept scripts is. start-stands w code g b kept scripts is
