-- What the soundness of evaluation takes from the declarations.
use Rattle.std.specs.Prelude.{◌≡◌, Some}
use Rattle.campl_tree.specs.Plain.Decl.{FunctionDecl}
use Rattle.campl_types.specs.Names.{Name}
use Rattle.campl_types.specs.Values.{ConstructorsAreKnown, DataTypesAreKnown, PartsAreKnown}
use Rattle.campl_types.specs.World.{World, function_named}
use Rattle.campl_types.specs.Sequential.{FunctionIsTyped}

pub record IsSoundWorld (w : World) : Type 0 where
  pub constructors : ConstructorsAreKnown w
  pub types : DataTypesAreKnown w
  pub parts : PartsAreKnown w
  pub functions : (x : Name) (f : FunctionDecl) → function_named w x ≡ Some f → FunctionIsTyped w f
