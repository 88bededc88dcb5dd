-- One is asked for its next step, by its branches in order.
use Rattle.std.specs.Prelude.{◌≡◌, ◌<◌, ℕ, suc, Bool, true, false, List, [], ◌∷◌, ◌++◌, Option, Some, None, Result, Ok, Err}
use Rattle.std.specs.declared.alloc.AllocError.{AllocError}
use Rattle.campl_tree.specs.Plain.Decl.{Program}
use Rattle.campl_types.specs.World.{world_of}
use Rattle.campl_meaning.specs.Reductions.{Configuration}
use Rattle.campl_meaning.specs.Ends.{IsEnabled}
use Rattle.campl_code.specs.Instructions.{Code}
use Rattle.campl_cells.specs.Parts.{Parts}
use Rattle.campl_cells.specs.Wants.{Drawn}
use Rattle.campl_cells.specs.Steps.{IsStill}
use Rattle.campl_cells.specs.Stands.{Naming}
use Rattle.campl_parts.specs.declared.entry.Entry.{Entry}
use Rattle.campl_parts.specs.Journal.{Recorded}
use Rattle.campl_steps.specs.declared.config.Config.{Config}
use Rattle.campl_steps.specs.declared.made.Made.{Made}
use Rattle.campl_steps.specs.Configs.{CanStep, IsMade, IsSame, drawn, parts}
use Rattle.campl_order.specs.Boards.{IsFirstFlagged, earlier}
use Rattle.campl_solo.specs.declared.solo.Solo.{Solo}
use Rattle.campl_solo.specs.Solos.{HasStepped, Rest, Stays}

-- how many flags are up
abbrev pub flags_up : List Bool → ℕ
flags_up [] = 0
flags_up (true ∷ flags) = suc (flags_up flags)
flags_up (false ∷ flags) = flags_up flags

-- it is the first of the flagged
abbrev pub IsFirst : Naming → Solo → ℕ → Type 0
IsFirst n solo p = IsFirstFlagged (earlier n.who) solo.schedule.board.flags.items (Some p)

-- p made a step by the first of its branches that is ready
pub record HasTurned (code : Code) (p : ℕ) (old : Config) (made : Made) (new : Config) : Type 0 where
  pub branch : ℕ
  pub is : IsMade code p branch old made new
  pub first : (i : ℕ) → i < branch → IsStill code (drawn old) (parts old) p i

-- that, or none of so many branches is ready, or memory or numbers are out
abbrev pub Turned : Code → (p count : ℕ) → (old new : Config) → Result (Option Made) AllocError → Type 0
Turned code p count old new (Ok (Some made)) = HasTurned code p old made new
Turned code p count old new (Ok None) = ((i : ℕ) → i < count → IsStill code (drawn old) (parts old) p i) × IsSame old new
Turned code p count old new (Err error) = IsSame old new

-- one of so many branches is ready, or none is, or memory or numbers are out
abbrev pub HasBranch : Code → Drawn → Parts → (p count : ℕ) → Result Bool AllocError → Type 0
HasBranch code d m p count (Ok true) = (i : ℕ) × CanStep code d m p i (Ok true)
HasBranch code d m p count (Ok false) = (i : ℕ) → i < count → IsStill code d m p i
HasBranch code d m p count (Err error) = Unit {0}

-- it rests now, and fewer are flagged
pub record LiesDown (source : Program) (code : Code) (n : Naming) (c : Configuration) (old new : Solo) : Type 0 where
  pub stays : Stays source code n c old new
  pub fewer : flags_up new.schedule.board.flags.items < flags_up old.schedule.board.flags.items

-- the first of the flagged made its step, whose entry came into the journal, or rests, or memory or numbers are out
abbrev pub Asked : Program → Code → Naming → Configuration → (old new : Solo) → (before after : Recorded) → Result Bool AllocError → Type 0
Asked source code n c old new before after (Ok true) = (entry : Entry) × (after.entries ≡ before.entries ++ entry ∷ []) × HasStepped source code n c old entry new
Asked source code n c old new before after (Ok false) = LiesDown source code n c old new × (after ≡ before)
Asked source code n c old new before after (Err error) = Stays source code n c old new × (after ≡ before)

-- the source may reduce, or the first of the flagged rests, or memory or numbers are out
abbrev pub Looked : Program → Code → Naming → Configuration → (old new : Solo) → Result Bool AllocError → Type 0
Looked source code n c old new (Ok true) = Stays source code n c old new × IsEnabled (world_of source) c
Looked source code n c old new (Ok false) = LiesDown source code n c old new
Looked source code n c old new (Err error) = Stays source code n c old new

-- the source may reduce, or nobody has a step, or memory or numbers are out
abbrev pub Searched : Program → Code → Naming → Configuration → (old new : Solo) → Result Bool AllocError → Type 0
Searched source code n c old new (Ok true) = Stays source code n c old new × IsEnabled (world_of source) c
Searched source code n c old new (Ok false) = Stays source code n c old new × Rest code new
Searched source code n c old new (Err error) = Stays source code n c old new
