use Rattle.campl_code_laws.proofs.Runs.{code-begins}
use Rattle.campl_code_laws.proofs.laws.law_code_begins.Goals as goal

pub returns : goal.returns
returns c = λ source code scripts accepted standing. code-begins source accepted code standing scripts
