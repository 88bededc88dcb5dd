-- On which ends a process or service waits, and how many branches it has.
use Rattle.std.specs.Prelude.{◌≡◌, ◌⊎◌, ℕ, List, [], ◌∷◌, Option, Some, None, slice_get}
use Rattle.campl_code.specs.Instructions.{Instr, Block, Code, blocks}
use Rattle.campl_code.specs.Instructions as i
use Rattle.campl_code_bodies.specs.Kept.{Kept, Values, AtCall, Broken}
use Rattle.campl_cells.specs.Parts.{Life, Ended, Runs, Serves}
use Rattle.campl_cells.specs.Wants.{Want, Rests, Moves, Looks, Links}
use Rattle.campl_steps.specs.declared.watch.Waits.{Waits}
use Rattle.campl_steps.specs.declared.watch.Waits.TheVariants as v

-- the ends on which one waits who wants this
abbrev pub watched : Want → List ℕ
watched Rests = []
watched (Moves kind end move) = []
watched (Looks kind takes e f) = e ∷ []
watched (Links x y) = x ∷ y ∷ []

abbrev pub ends_waited : Waits → List ℕ
ends_waited v.Nothing = []
ends_waited (v.One e) = e ∷ []
ends_waited (v.Two x y) = x ∷ y ∷ []

-- a branch that is none: nothing is wanted as it, or the same as of the first
abbrev pub IsNoBranch : (ℕ → Want) → ℕ → Type 0
IsNoBranch f branch = (f branch ≡ Rests) ⊎ (f branch ≡ f 0)

-- the places of a race's branches
abbrev pub targets_at : Option Instr → List ℕ
targets_at (Some (i.Race targets)) = targets
targets_at o = []

abbrev pub targets_in : (at : ℕ) → Option Block → List ℕ
targets_in at None = []
targets_in at (Some b) = targets_at (slice_get b.code at)

abbrev pub targets_kept : Code → (block : ℕ) → Kept → List ℕ
targets_kept code block (Values at vars values) = targets_in at (slice_get (blocks code) block)
targets_kept code block (AtCall f fs) = []
targets_kept code block Broken = []

abbrev pub targets_of : Code → Life → List ℕ
targets_of code Ended = []
targets_of code (Runs h) = targets_kept code h.block h.kept
targets_of code (Serves e s) = []
