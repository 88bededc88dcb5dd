-- What a process or service does next, as one sees it.
use Rattle.std.specs.Prelude.{◌≡◌, ◌<◌, ◌^◌, ℕ, Option, Some, None}
use Rattle.campl_meaning.specs.States as k
use Rattle.campl_service.specs.declared.phase.Want.TheVariants as want
use Rattle.campl_service.specs.declared.phase.Want as phase
use Rattle.campl_service.specs.Services as services
use Rattle.campl_code.specs.Instructions.{Code}
use Rattle.campl_code_bodies.specs.Kept.{Kept, Values, AtCall, Broken}
use Rattle.campl_cells.specs.Parts.{Life, Ended, Runs, Serves, Parts, Proc, Tip}
use Rattle.campl_cells.specs.Wants.{Drawn, wanted}
use Rattle.campl_cells.specs.Steps.{Change, by_want, change_of}
use Rattle.campl_parts.specs.Views.{kind_of}
use Rattle.campl_steps.specs.declared.outlook.Next.{Next}
use Rattle.campl_steps.specs.declared.outlook.Next.TheVariants as n

-- a service that is closed is over
abbrev pub stopped_serving : phase.Want → Option Next
stopped_serving want.Closed = Some n.Ended
stopped_serving want.Pick = None
stopped_serving want.Text = None
stopped_serving want.Send = None
stopped_serving want.Spent = None

-- expressions that broke
abbrev pub stopped_kept : Kept → Option Next
stopped_kept Broken = Some n.Broken
stopped_kept (AtCall f fs) = None
stopped_kept (Values at vars values) = None

-- what one is that never goes on, as its own part shows
abbrev pub stopped : Life → Option Next
stopped Ended = Some n.Ended
stopped (Runs h) = stopped_kept h.kept
stopped (Serves e s) = stopped_serving (services.want s)

-- the kind of the step that makes a change
abbrev pub kind_in : Option Change → Option k.Kind
kind_in None = None
kind_in (Some change) = Some change.entry.kind

-- the kind of the step by a branch, where there is one
abbrev pub kind_by : Code → (ℕ → Option Tip) → Drawn → (p : ℕ) → Life → (i : ℕ) → Option k.Kind
kind_by code tip d p life i = kind_in (by_want tip d p (wanted code d life i))

-- the first branch with a step, whose kind is this; without one, none of the branches that have a number
abbrev pub IsFirstKind : (ℕ → Option k.Kind) → Option k.Kind → Type 0
IsFirstKind f None = (i : ℕ) → i < 2 ^ 32 → f i ≡ None
IsFirstKind f (Some kind) = (i : ℕ) × (f i ≡ Some kind) × ((j : ℕ) → j < i → f j ≡ None)

-- the first branch that has a step, and the step's kind
pub record IsFirst (f : ℕ → Option Change) (kind : k.Kind) : Type 0 where
  pub branch : ℕ
  pub change : Change
  pub changes : f branch ≡ Some change
  pub kind_is : change.entry.kind ≡ kind
  pub before : (j : ℕ) → j < branch → f j ≡ None

-- q, whose number is p, does this next
abbrev pub IsNextOf : Code → Parts → (p : ℕ) → Proc → Next → Type 0
IsNextOf code m p q (n.Step kind) = (d : Drawn) → IsFirst (change_of code d m p q) (kind_of kind)
IsNextOf code m p q n.Waits = (stopped q.life ≡ None) × ((d : Drawn) (i : ℕ) → i < 2 ^ 32 → change_of code d m p q i ≡ None)
IsNextOf code m p q n.Ended = stopped q.life ≡ Some n.Ended
IsNextOf code m p q n.Broken = stopped q.life ≡ Some n.Broken

-- what stands at the number p does this next, and is over where nothing does
abbrev pub IsNextIn : Code → Parts → (p : ℕ) → Option Proc → Next → Type 0
IsNextIn code m p None next = next ≡ n.Ended
IsNextIn code m p (Some q) next = IsNextOf code m p q next

-- what the number p does next is this
abbrev pub IsNext : Code → Parts → (p : ℕ) → Next → Type 0
IsNext code m p next = IsNextIn code m p (m.process p) next
