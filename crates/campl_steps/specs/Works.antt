-- Calls of a process in turn, which one entry tells.
use Rattle.std.specs.Prelude.{◌≡◌, ◌⊎◌, ◌≤◌, ℕ, zero, suc, Bool, true, false, Option, Some, None, Result, Ok, Err, length}
use Rattle.std.specs.declared.alloc.AllocError.{AllocError}
use Rattle.campl_meaning.specs.States as k
use Rattle.campl_code.specs.Instructions.{Code}
use Rattle.campl_code_bodies.specs.Kept.{Kept, Values, AtCall, Broken}
use Rattle.campl_cells.specs.Parts.{Life, Ended, Runs, Serves, Parts, Proc}
use Rattle.campl_cells.specs.Stands.{Wired}
use Rattle.campl_cells.specs.Wants.{Drawn}
use Rattle.campl_cells.specs.Steps.{Entry, IsStill, Steps}
use Rattle.campl_parts.specs.Views.{entry_of}
use Rattle.campl_steps.specs.declared.config.Config.{Config}
use Rattle.campl_steps.specs.declared.made.Made.{Made}
use Rattle.campl_steps.specs.Configs.{IsMade, IsSame, drawn, parts}

-- the process stands before a further call
abbrev pub is_call : Kept → Bool
is_call (AtCall f fs) = true
is_call (Values at vars values) = false
is_call Broken = false

abbrev pub is_calling : Life → Bool
is_calling Ended = false
is_calling (Runs h) = is_call h.kept
is_calling (Serves e s) = false

abbrev pub is_at_call : Option Proc → Bool
is_at_call None = false
is_at_call (Some q) = is_calling q.life

-- what is told of so many calls of p
abbrev pub work : (p calls : ℕ) → Entry
work p calls = record {
  process = p;
  kind = k.Work;
  weight = calls;
  end = None;
  second = None;
  message = None;
  child = None;
  channel = None;
  channel2 = None;
}

-- so many steps of p by the branch i in turn, each of which is one call
abbrev pub Calls : Code → Drawn → (p i calls : ℕ) → (m m2 : Parts) → Type 0
Calls code d p i zero m m2 = m2 ≡ m
Calls code d p i (suc calls) m m2 = (mid : Parts) × Calls code d p i calls m mid × Steps code d mid p i (work p 1) m2

-- so many calls of p in turn, which the entry tells
abbrev pub Works : Code → Drawn → (p i calls : ℕ) → Parts → Entry → Parts → Type 0
Works code d p i calls m entry m2 = (entry ≡ work p calls) × Calls code d p i calls m m2

-- so many calls of p in turn, at most this many, which changed nothing but p
pub record HasCalled (code : Code) (p i most : ℕ) (old new : Config) (calls : ℕ) : Type 0 where
  pub few : calls ≤ most
  pub made : Calls code (drawn old) p i calls (parts old) (parts new)
  pub tip : (parts new).tip ≡ (parts old).tip
  pub processes : length new.processes.items ≡ length old.processes.items
  pub ends : length new.ends.items ≡ length old.ends.items
  pub wired : Wired (parts new)

-- p made a call, or nothing has changed
abbrev pub HasCalledIf : Code → (p i : ℕ) → (old new : Config) → Bool → Type 0
HasCalledIf code p i old new true = HasCalled code p i 1 old new 1
HasCalledIf code p i old new false = IsSame old new

-- p made one call or more, at most this many, and the entry tells all of them
pub record HasWorked (code : Code) (p i most : ℕ) (old : Config) (made : Made) (new : Config) : Type 0 where
  pub calls : ℕ
  pub some : 1 ≤ calls
  pub few : calls ≤ most
  pub works : Works code (drawn old) p i calls (parts old) (entry_of made.entry) (parts new)
  pub tip : (parts new).tip ≡ (parts old).tip
  pub processes : length new.processes.items ≡ length old.processes.items
  pub ends : length new.ends.items ≡ length old.ends.items

-- p made a step by the branch i, or calls, at most this many, or has no step, or memory or numbers are out
abbrev pub Advanced : Code → (p i most : ℕ) → (old new : Config) → Result (Option Made) AllocError → Type 0
Advanced code p i most old new (Ok (Some made)) = IsMade code p i old made new ⊎ HasWorked code p i most old made new
Advanced code p i most old new (Ok None) = IsStill code (drawn old) (parts old) p i × IsSame old new
Advanced code p i most old new (Err error) = IsSame old new
