use Rattle.campl_code_bodies.proofs.Lifted.{reduces-alike}
use Rattle.campl_code_bodies.proofs.laws.law_reductions.Goals as goal

pub returns : goal.returns
returns c = reduces-alike
