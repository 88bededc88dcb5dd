use Rattle.campl_cells.proofs.laws.law_waits.Goals as goal
use Rattle.campl_cells.proofs.Nearby.{still-waits}

pub returns : goal.returns
returns c = still-waits
