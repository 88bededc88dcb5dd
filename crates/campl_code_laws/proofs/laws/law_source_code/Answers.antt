use Rattle.campl_code_laws.proofs.Generated.{code-itself, code-stands, code-onward}
use Rattle.campl_code_laws.proofs.laws.law_source_code.Goals as goal

pub returns : goal.returns
returns c = record { itself = code-itself; stands = λ source code accepted is. code-stands source accepted code is; onward = code-onward }
