-- Typed sources. A source is typed where it is well declared, and each of its functions and each of its
-- processes is typed. That the parts of each plug form a tree is no part of this.
use Rattle.campl_tree.specs.Plain.Decl.{Program}
use Rattle.campl_types.specs.World.{world_of}
use Rattle.campl_types.specs.WellDeclared.{IsWellDeclared}
use Rattle.campl_types.specs.Sequential.{FunctionsAreTyped}
use Rattle.campl_types.specs.Linear.{ProcessesAreTyped}

pub record IsTyped (source : Program) : Type 0 where
  pub declared : IsWellDeclared source
  pub functions : FunctionsAreTyped (world_of source) source
  pub processes : ProcessesAreTyped (world_of source) source
