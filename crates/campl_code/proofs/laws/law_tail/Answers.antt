use Rattle.campl_code.proofs.Tails.{tail-call}
use Rattle.campl_code.proofs.laws.law_tail.Goals as goal

pub returns : goal.returns
returns c = tail-call
