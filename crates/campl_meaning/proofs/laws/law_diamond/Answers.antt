use Rattle.campl_types.specs.World.{world_of}
use Rattle.campl_meaning.proofs.OneAnswer.{both}
use Rattle.campl_meaning.proofs.laws.law_diamond.Goals as goal

pub returns : goal.returns
returns k source c l = both (world_of source) c l.place l.apart
