use Rattle.campl_meaning.proofs.OneAnswer.{one-prefix}
use Rattle.campl_meaning.proofs.laws.law_prefix.Goals as goal

pub returns : goal.returns
returns c source quiet kept accepted scripts = one-prefix source quiet kept accepted scripts
