-- The two sides of a channel.
use Rattle.campl_tree.specs.declared.service.Side.{Side}
use Rattle.campl_tree.specs.declared.service.Side.TheVariants.{Input, Output}

-- the other side
abbrev pub opposite : Side → Side
opposite Input = Output
opposite Output = Input
