-- What a typed source's declarations give evaluation.
use Rattle.campl_tree.specs.Plain.Decl.{Program}
use Rattle.campl_types.specs.Typed.{IsTyped}
use Rattle.campl_types.specs.World.{world_of}
use Rattle.campl_types.proofs.DeclaredOnce.{well-declared-constructors, types-are-known}
use Rattle.campl_types.proofs.PartsKnown.{parts-are-known}
use Rattle.campl_types.proofs.Lowers.{function-typed}
use Rattle.campl_evaluation.specs.Worlds.{IsSoundWorld}

pub typed-world : (source : Program) → IsTyped source → IsSoundWorld (world_of source)
typed-world source i =
    record {
      constructors = well-declared-constructors source i.declared;
      types = types-are-known source i.declared;
      parts = parts-are-known source i.declared;
      functions = function-typed source i;
    }
