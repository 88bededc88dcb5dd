use Rattle.campl_code_bodies.proofs.Doing.{wants-alike}
use Rattle.campl_code_bodies.proofs.laws.law_command.Goals as goal

pub returns : goal.returns
returns c = wants-alike
