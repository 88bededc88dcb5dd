-- The code that is generated for a world.
use Rattle.campl_types.specs.World.{World}
use Rattle.campl_code.specs.Instructions.{Code}
use Rattle.campl_code_bodies.specs.Bodies.{processes_of}
use Rattle.campl_code_bodies.specs.BodySizes.{processes_size}
use Rattle.campl_code_bodies.specs.SourceCode.{code_within}

-- of a source's world it is the code that is generated for the source
abbrev pub world_code : World → Code
world_code w = code_within w (processes_size (processes_of w))
