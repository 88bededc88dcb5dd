use Rattle.campl_cells.proofs.laws.law_still.Goals as goal
use Rattle.campl_cells.proofs.GoingOn.{still-stands}

pub returns : goal.returns
returns c = still-stands
