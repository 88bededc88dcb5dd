use Rattle.campl_code.proofs.Resume.{over-follows}
use Rattle.campl_code.proofs.laws.law_settled.Goals as goal

pub returns : goal.returns
returns c = over-follows
