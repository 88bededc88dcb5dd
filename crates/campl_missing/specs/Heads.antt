-- The constructors of a data type as heads.
use Rattle.std.specs.Prelude.{List, map}
use Rattle.campl_tree.specs.Plain.SeqType.{SeqType}
use Rattle.campl_tree.specs.Plain.Decl.{DataDecl, DataConstructor}
use Rattle.campl_types.specs.Missing.{Head, IsBuilt}
use Rattle.campl_types.specs.Values.{parts_at}

-- those of these lines of the declaration
abbrev pub constructor_heads : DataDecl → List SeqType → List DataConstructor → List Head
constructor_heads d ts = map (λ (k : DataConstructor). IsBuilt k.name.name (parts_at d ts k))
