use Rattle.campl_types.proofs.Missing.{nothing-missing}
use Rattle.campl_types.proofs.DeclaredOnce.{well-declared-constructors}
use Rattle.campl_types.specs.World.{world_of}
use Rattle.campl_types.proofs.laws.law_some_row_matches.Goals as goal

pub returns : goal.returns
returns c source i rows ts vs long full h = nothing-missing (world_of source) (well-declared-constructors source i) rows ts vs long full h
