-- The run in which again and again the first process or service that has a reduction makes it.
use Rattle.std.specs.Prelude.{◌≡◌, ℕ, ◌≤◌, ◌<◌, Bool, true, false, ◌||◌, ◌&&◌, List, [], ◌∷◌, Some, None, length, eqb, nat_lt}
use Rattle.campl_machine.specs.Names.{Birth, Path, Who, Process, Service, same_birth}
use Rattle.campl_machine.specs.Runs.{Run}
use Rattle.campl_types.specs.World.{World}
use Rattle.campl_service.specs.Scripts.{Lines}
use Rattle.campl_meaning.specs.Reductions.{Configuration, Event, reduce}
use Rattle.campl_meaning.specs.Start.{start}
use Rattle.campl_meaning.specs.Ends.{MayReduce, Ending, IsEnd}

abbrev pub is_birth_before : Birth → Birth → Bool
is_birth_before a b = nat_lt a.step b.step || (eqb a.step b.step && nat_lt a.place b.place)

-- of two paths of one length, by their numbers
abbrev pub are_births_before : Path → Path → Bool
are_births_before [] q = false
are_births_before (a ∷ p) [] = false
are_births_before (a ∷ p) (b ∷ q) = is_birth_before a b || (same_birth a b && are_births_before p q)

-- processes by the length of their paths and then by their numbers, and services behind them in heading order
abbrev pub is_before : Who → Who → Bool
is_before (Process p) (Process q) = nat_lt (length p) (length q) || (eqb (length p) (length q) && are_births_before p q)
is_before (Process p) (Service n) = true
is_before (Service m) (Process q) = false
is_before (Service m) (Service n) = nat_lt m n

-- the first that may make a reduction makes it, and a race takes its first branch that is ready
pub record IsFirst (w : World) (c : Configuration) (who : Who) (branch : ℕ) (event : Event) (d : Configuration) : Type 0 where
  pub reduces : reduce w c who branch ≡ Some (event, d)
  pub first : (v : Who) → MayReduce w c v → is_before v who ≡ false
  pub ready : (i : ℕ) → i < branch → reduce w c who i ≡ None

-- the reductions that are first
abbrev pub FirstReduces : World → Configuration → (Who × ℕ × Event) → Configuration → Type 0
FirstReduces w c l d = IsFirst w c l.0 l.1 l.2 d

-- from c, n such reductions lead to d, within the budget, and there the run ends
pub record RunsOneAtATime (w : World) (c : Configuration) (budget : ℕ) (ending : Ending) (n : ℕ) (d : Configuration) : Type 0 where
  pub run : Run (FirstReduces w) n c d
  pub within : n ≤ budget
  pub ends : IsEnd w d n budget ending

-- and from the start of a source with scripts
abbrev pub RunsFromStart : World → List Lines → (budget : ℕ) → Ending → ℕ → Configuration → Type 0
RunsFromStart w scripts budget ending n d = RunsOneAtATime w (start w scripts) budget ending n d
