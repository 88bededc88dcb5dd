-- Whole runs by number.
use Rattle.std.specs.Prelude.{◌≡◌, ℕ, List, [], ◌∷◌, map}
use Rattle.campl_machine.specs.Names.{Who}
use Rattle.campl_meaning.specs.Reductions.{Event}
use Rattle.campl_code.specs.Instructions.{Code}
use Rattle.campl_cells.specs.Parts.{Parts}
use Rattle.campl_cells.specs.Wants.{Drawn}
use Rattle.campl_cells.specs.Steps.{Entry, Steps}
use Rattle.campl_cells.specs.Stands.{Naming, IsFresh, named_entry}

-- who makes a step, as which branch of a race, and the numbers for what is born
pub record Turn : Type 0 where
  pub process : ℕ
  pub branch : ℕ
  pub drawn : Drawn

-- the parts come from m to m2 by these turns, with these entries
abbrev pub PartsGo : Code → Parts → List Turn → List Entry → Parts → Type 0
PartsGo code m [] entries m2 = (entries ≡ []) × (m ≡ m2)
PartsGo code m (t ∷ turns) entries m2 =
    (entry : Entry) × (more : List Entry) × (next : Parts) × (entries ≡ entry ∷ more) × IsFresh t.drawn m × Steps code t.drawn m t.process t.branch entry next
    × PartsGo code next turns more m2

-- the same under the machine's names

abbrev pub named_turns : Naming → List Turn → List (Who × ℕ)
named_turns n = map (λ t. (n.who t.process, t.branch))

abbrev pub named_entries : Naming → List Entry → List Event
named_entries n = map (named_entry n)
