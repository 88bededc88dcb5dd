use Rattle.campl_cells_laws.proofs.laws.law_parts_rest.Goals as goal
use Rattle.campl_cells_laws.proofs.Represented.{parts-rest}

pub returns : goal.returns
returns c = parts-rest
