use Rattle.campl_code_bodies.proofs.Starting.{starts-alike}
use Rattle.campl_code_bodies.proofs.laws.law_start.Goals as goal

pub returns : goal.returns
returns c = starts-alike
