use Rattle.campl_cells_laws.proofs.laws.law_parts_run.Goals as goal
use Rattle.campl_cells_laws.proofs.Represented.{parts-run}

pub returns : goal.returns
returns c = parts-run
