use Rattle.campl_code_laws.proofs.Runs.{code-runs, source-runs}
use Rattle.campl_code_laws.proofs.laws.law_code_runs.Goals as goal

pub returns : goal.returns
returns c = record {
  all = λ source code scripts c accepted standing. code-runs source accepted code standing scripts c;
  no_others = λ source code scripts c accepted standing. source-runs source accepted code standing scripts c;
}
