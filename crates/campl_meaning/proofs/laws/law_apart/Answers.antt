use Rattle.campl_meaning.proofs.Independent.{keeps-apart}
use Rattle.campl_meaning.proofs.laws.law_apart.Goals as goal

pub returns : goal.returns
returns c = keeps-apart
