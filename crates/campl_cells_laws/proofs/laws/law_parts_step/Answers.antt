use Rattle.campl_cells_laws.proofs.laws.law_parts_step.Goals as goal
use Rattle.campl_cells_laws.proofs.Represented.{parts-step}

pub returns : goal.returns
returns c = parts-step
