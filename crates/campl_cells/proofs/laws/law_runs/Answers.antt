use Rattle.campl_cells.proofs.laws.law_runs.Goals as goal
use Rattle.campl_cells.proofs.GoingOn.{runs-stand}

pub returns : goal.returns
returns c = λ code n m d z turns. runs-stand code turns n m d z
