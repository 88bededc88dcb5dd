use Rattle.campl_code.proofs.Resume.{resumed}
use Rattle.campl_code.proofs.laws.law_resumed.Goals as goal

pub returns : goal.returns
returns c = resumed
