-- What a turn by number means for the source.
use Rattle.std.specs.Prelude.{◌≡◌, ◌≢◌, ℕ, [], ◌∷◌, ◌++◌, Some, IsSome}
use Rattle.campl_machine.specs.Names.{Path, Process}
use Rattle.campl_types.specs.World.{World}
use Rattle.campl_meaning.specs.Reductions.{Configuration}
use Rattle.campl_meaning.specs.OneAtATime.{IsFirst}
use Rattle.campl_meaning.specs.Journals.{IsWeighed, Says}
use Rattle.campl_code.specs.Instructions.{Code}
use Rattle.campl_cells.specs.Parts.{Parts, Proc}
use Rattle.campl_cells.specs.Steps.{Entry}
use Rattle.campl_cells.specs.Stands.{Grows, Naming, birth, named_entry}
use Rattle.campl_cells.specs.Runs.{Turn}
use Rattle.campl_cells_laws.specs.Sources.{Represents}
use Rattle.campl_turns.specs.Turns.{told_entry, told_naming}

-- k has the name of the child that the last step of its parent bore, and no other number has it
pub record IsChildOf (naming : Naming) (m : Parts) (parent k : ℕ) : Type 0 where
  pub named : (q : Proc) → m.process parent ≡ Some q → (path : Path) → naming.who parent ≡ Process path → naming.who k ≡ Process (path ++ birth q.steps ∷ [])
  pub alone : (i : ℕ) → IsSome (m.process i) → i ≢ k → naming.who i ≢ naming.who k

-- the turn is the source's first reduction, which the entry tells, and what comes of both is represented again
pub record Means (w : World) (code : Code) (n : Naming) (m : Parts) (c : Configuration) (t : Turn) (entry : Entry) (m2 : Parts) : Type 0 where
  pub naming : Naming
  pub next : Configuration
  pub grows : Grows n naming m
  pub first : IsFirst w c (n.who t.process) t.branch (named_entry naming entry) next
  pub represents : Represents w code naming m2 next
  pub says : Says (told_naming n m) (told_entry entry) (n.who t.process) (named_entry naming entry) (told_naming naming m2)
  pub weighed : IsWeighed (told_entry entry)
  pub child : (k : ℕ) → entry.child ≡ Some k → IsChildOf naming m2 t.process k
