use Rattle.campl_cells.proofs.laws.law_step.Goals as goal
use Rattle.campl_cells.proofs.GoingOn.{entry-of-step}
use Rattle.campl_cells.proofs.Theorem.{step-alike, enough-there}

pub returns : goal.returns
returns c = record {
  enough = enough-there;
  step = λ code n m c z d fresh p q there i k enough. step-alike code n m c z d fresh p q there i k enough;
  entry = entry-of-step;
}
