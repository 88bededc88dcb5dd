-- Configurations in memory, and what a step makes of one.
use Rattle.std.specs.Prelude.{◌≡◌, ◌⊎◌, ◌+◌, ◌/◌, ◌<◌, ℕ, Bool, true, false, List, [], ◌∷◌, Option, Some, None, Result, Ok, Err, length}
use Rattle.std.specs.declared.alloc.AllocError.{AllocError}
use Rattle.campl_code.specs.Instructions.{Code}
use Rattle.campl_cells.specs.Parts.{Parts, Proc}
use Rattle.campl_cells.specs.Wants.{Drawn}
use Rattle.campl_cells.specs.Steps.{Entry, IsStill, Steps}
use Rattle.campl_parts.specs.Tables.{parts_of}
use Rattle.campl_parts.specs.Views.{entry_of}
use Rattle.campl_steps.specs.declared.config.Config.{Config}
use Rattle.campl_steps.specs.declared.made.Made.{Made}
use Rattle.campl_steps.specs.declared.made.Changed.{Changed}
use Rattle.campl_steps.specs.declared.made.Changed.TheVariants.{Nothing, One, Four}

-- the parts that a configuration has
abbrev pub parts : Config → Parts
parts c = parts_of c.processes.items c.ends.items

-- the numbers of what its next step bears
abbrev pub drawn : Config → Drawn
drawn c = record { child = length c.processes.items; channel = length c.ends.items / 2; channel2 = length c.ends.items / 2 + 1 }

abbrev pub IsAmong : List ℕ → ℕ → Type 0
IsAmong [] k = ⊥
IsAmong (x ∷ xs) k = (x ≡ k) ⊎ IsAmong xs k

abbrev pub changed_ends : Changed → List ℕ
changed_ends Nothing = []
changed_ends (One e) = e ∷ []
changed_ends (Four x y x2 y2) = x ∷ y ∷ x2 ∷ y2 ∷ []

-- how many processes a step bears, and how many ends
abbrev pub more : {A : Type 0} → Option A → ℕ → ℕ
more None n = 0
more (Some x) n = n

-- p made this step by the branch i, and something changed at no other end that was there
pub record IsMade (code : Code) (p i : ℕ) (old : Config) (made : Made) (new : Config) : Type 0 where
  pub steps : Steps code (drawn old) (parts old) p i (entry_of made.entry) (parts new)
  pub changed : (k : ℕ) → k < length old.ends.items → (IsAmong (changed_ends made.changed) k → ⊥) → (parts new).tip k ≡ (parts old).tip k
  pub processes : length new.processes.items ≡ length old.processes.items + more made.entry.child 1
  pub ends : length new.ends.items ≡ length old.ends.items + (more made.entry.channel 2 + more made.entry.channel2 2)

-- nothing has changed
pub record IsSame (old new : Config) : Type 0 where
  pub parts : parts new ≡ parts old
  pub processes : length new.processes.items ≡ length old.processes.items
  pub ends : length new.ends.items ≡ length old.ends.items

-- p made a step by the branch i, or has none, or memory or numbers are out
abbrev pub Stepped : Code → (p i : ℕ) → (old new : Config) → Result (Option Made) AllocError → Type 0
Stepped code p i old new (Ok (Some made)) = IsMade code p i old made new
Stepped code p i old new (Ok None) = IsStill code (drawn old) (parts old) p i × IsSame old new
Stepped code p i old new (Err error) = IsSame old new

-- p has a step by the branch i, or has none, or it can't be told
abbrev pub CanStep : Code → Drawn → Parts → (p i : ℕ) → Result Bool AllocError → Type 0
CanStep code d m p i (Ok true) = (entry : Entry) × (m2 : Parts) × Steps code d m p i entry m2
CanStep code d m p i (Ok false) = IsStill code d m p i
CanStep code d m p i (Err error) = Unit {0}

-- the steps that a process made
abbrev pub steps_of : Option Proc → ℕ
steps_of None = 0
steps_of (Some q) = q.steps
