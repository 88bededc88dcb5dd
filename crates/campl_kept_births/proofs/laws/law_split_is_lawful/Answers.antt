use Rattle.campl_kept_births.proofs.Goes.{split-goes}
use Rattle.campl_kept_births.proofs.laws.law_split_is_lawful.Goals as goal

pub returns : goal.returns
returns c0 source c d p r l there g = split-goes source c d p r l there g
