use Rattle.campl_meaning.proofs.Named.{named-kept}
use Rattle.campl_meaning.proofs.laws.law_names.Goals as goal

pub returns : goal.returns
returns c = named-kept
