use Rattle.campl_kept_births.proofs.Goes.{peel-goes}
use Rattle.campl_kept_births.proofs.laws.law_peel_is_lawful.Goals as goal

pub returns : goal.returns
returns c0 source c d p r l there g = peel-goes source c d p r l there g
