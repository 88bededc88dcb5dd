use Rattle.campl_cells.proofs.laws.law_frame.Goals as goal
use Rattle.campl_cells.proofs.Nearby.{else-stays}

pub returns : goal.returns
returns c = else-stays
