-- What a turn does to the tables that say who may step.
use Rattle.std.specs.Prelude.{◌≡◌, ◌≢◌, ◌⊎◌, ◌<◌, ◌+◌, ◌++◌, ℕ, Bool, true, List, [], ◌∷◌, Option, Some, None, length, set}
use Rattle.campl_machine.specs.Names.{Who}
use Rattle.campl_code.specs.Instructions.{Code}
use Rattle.campl_cells.specs.Parts.{Parts, Proc}
use Rattle.campl_cells.specs.Wants.{Drawn, wanted}
use Rattle.campl_cells.specs.Local.{Watches}
use Rattle.campl_turns.specs.Turns.{Rests, WaitsOn}
use Rattle.campl_steps.specs.Configs.{more}
use Rattle.campl_order.specs.declared.schedule.Schedule.{Schedule}
use Rattle.campl_order.specs.Orders.{IsChild, rank, service_depth}
use Rattle.campl_order.specs.Waiting.{IsScheduled, Keeps, waiter}

-- the tables fit parts with so many processes and ends: whoever isn't flagged rests, unless it waits on a changed end
pub record Fits (code : Code) (m : Parts) (who : ℕ → Who) (processes ends : ℕ) (changed : List ℕ) (s : Schedule) : Type 0 where
  pub scheduled : IsScheduled who s
  pub processes_are : length s.order.ranks.items ≡ processes
  pub ends_are : length s.waiting.items ≡ ends
  pub keeps : Keeps (Rests code m) (WaitsOn code m) s.board.flags.items s.waiting.items processes changed

-- Who rests

-- this one waits on each of these ends
abbrev pub waiting_at : (number : ℕ) → List ℕ → List (Option ℕ) → List (Option ℕ)
waiting_at p [] waiting = waiting
waiting_at p (e ∷ es) waiting = waiting_at p es (set waiting e (Some p))

-- p now waits on each end that one of its first branches wants, so many, and on all other ends those wait who did
pub record HasWaited (code : Code) (m : Parts) (p count : ℕ) (old new : List (Option ℕ)) : Type 0 where
  pub length_is : length new ≡ length old
  pub others : (e : ℕ) → (waiter new e ≡ waiter old e) ⊎ ((waiter new e ≡ Some p) × WaitsOn code m p e)
  pub own : (q : Proc) → m.process p ≡ Some q → (d : Drawn) (i e : ℕ) → i < count → Watches (wanted code d q.life i) e → e < length old → waiter new e ≡ Some p

-- Who is born

-- nobody waits at the two ends of a channel that is born
abbrev pub nobody : (channel : Option ℕ) → List (Option ℕ)
nobody None = []
nobody (Some c) = None ∷ None ∷ []

-- a child, whose number is the next, is flagged
abbrev pub flags_borne : (child : Option ℕ) → (number : ℕ) → List Bool → List Bool
flags_borne None number flags = flags
flags_borne (Some k) number flags = set flags number true

-- the parent may bear the next number as the child of its step with this number
pub record CanBear (names : ℕ → Who) (parent born : ℕ) (s : Schedule) : Type 0 where
  pub there : parent < length s.order.ranks.items
  pub process : (rank s.order.ranks.items parent).depth ≢ service_depth
  pub child : IsChild names parent born (length s.order.ranks.items)

-- where a child is borne, it may be
abbrev pub MayBear : (ℕ → Who) → (parent born : ℕ) → (child : Option ℕ) → Schedule → Type 0
MayBear names parent born None s = Unit {0}
MayBear names parent born (Some k) s = CanBear names parent born s

-- where a child is borne, there is room for its flag
abbrev pub HasFlagFor : (child : Option ℕ) → Schedule → Type 0
HasFlagFor None s = Unit {0}
HasFlagFor (Some k) s = length s.order.ranks.items < length s.board.flags.items

-- the tables have grown by what a step bore
pub record Grown (parent born : ℕ) (child channel channel2 : Option ℕ) (old new : Schedule) : Type 0 where
  pub scheduled : (names : ℕ → Who) → IsScheduled names old → MayBear names parent born child old → IsScheduled names new
  pub flags : new.board.flags.items ≡ flags_borne child (length old.order.ranks.items) old.board.flags.items
  pub processes : length new.order.ranks.items ≡ length old.order.ranks.items + more child 1
  pub waiting : new.waiting.items ≡ (old.waiting.items ++ nobody channel) ++ nobody channel2
