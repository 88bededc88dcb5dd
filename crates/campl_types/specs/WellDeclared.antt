-- Well declared programs. Names are declared once in their space, each used name is known and of its
-- kind, each named type has as many arguments as its declaration has parameters, the parameters of one
-- heading differ, a type variable stands only in the lines of a declaration that has it as a parameter
-- and in a function's types, and `run` is there with service channels alone.
use Rattle.std.specs.Prelude.{◌≡◌, List, [], ◌∷◌, ◌++◌, Option, Some, None}
use Rattle.campl_tree.specs.Plain.Decl.{Program}
use Rattle.campl_types.specs.declared.fault.NameFault.{NameFault}
use Rattle.campl_types.specs.Twice.{twice_faults}
use Rattle.campl_types.specs.Known.{each, in_decl}
use Rattle.campl_types.specs.Run.{run_faults}
use Rattle.campl_types.specs.World.{world_of}

-- all faults of a source in the order in which they are judged
abbrev pub name_faults : Program → List NameFault
name_faults source = twice_faults source ++ each (in_decl (world_of source)) source ++ run_faults (world_of source)

abbrev pub IsWellDeclared : Program → Type 0
IsWellDeclared source = name_faults source ≡ []

abbrev first_of : List NameFault → Option NameFault
first_of [] = None
first_of (f ∷ fs) = Some f

abbrev pub first_fault : Program → Option NameFault
first_fault source = first_of (name_faults source)
