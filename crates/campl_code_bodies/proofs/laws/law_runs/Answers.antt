use Rattle.campl_code_bodies.proofs.Runs.{code-goes, source-goes}
use Rattle.campl_code_bodies.proofs.laws.law_runs.Goals as goal

pub returns : goal.returns
returns c = record { code = code-goes; source = source-goes }
