use Rattle.campl_kept_births.proofs.Goes.{fork-goes}
use Rattle.campl_kept_births.proofs.laws.law_fork_is_lawful.Goals as goal

pub returns : goal.returns
returns c0 source c d p r l there g = fork-goes source c d p r l there g
