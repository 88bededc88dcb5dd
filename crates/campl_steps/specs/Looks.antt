-- What one sees of a configuration: births, services, and which ends wait.
use Rattle.std.specs.Prelude.{ℕ, Bool, true, false, List, [], ◌∷◌, Option, Some, None, slice_get, if◌then◌else◌, eqb}
use Rattle.campl_service.specs.declared.phase.Want.TheVariants as want
use Rattle.campl_service.specs.declared.phase.Want as phase
use Rattle.campl_service.specs.Services as services
use Rattle.campl_service.specs.Services.{Serving}
use Rattle.campl_service.specs.Transcripts.{Records}
use Rattle.campl_code.specs.Instructions.{Code}
use Rattle.campl_cells.specs.Parts.{Life, Ended, Runs, Serves, Proc}
use Rattle.campl_cells.specs.Wants.{Drawn, Want, wanted}
use Rattle.campl_steps.specs.declared.looks.Birth.{Birth}
use Rattle.campl_steps.specs.Watching.{targets_of, watched}

-- where a process was born; a service never was, and stays one for ever
abbrev pub born_as : Life → Proc → Option Birth
born_as Ended q = Some (record { parent = q.parent; step = q.born })
born_as (Runs h) q = Some (record { parent = q.parent; step = q.born })
born_as (Serves e s) q = None

-- where what stands at a number was born; process 0 never was
abbrev pub birth_of : (number : ℕ) → Option Proc → Option Birth
birth_of number None = None
birth_of number (Some q) = if eqb number 0 then None else born_as q.life q

-- the service that one is
abbrev pub serving_of : Life → Option Serving
serving_of Ended = None
serving_of (Runs h) = None
serving_of (Serves e s) = Some s

-- the service that stands at a number
abbrev pub serving_at : Option Proc → Option Serving
serving_at None = None
serving_at (Some q) = serving_of q.life

-- what it wrote down
abbrev pub written_down : Option Serving → Option Records
written_down None = None
written_down (Some s) = Some s.transcript

-- it wants a line, and its script is spent
abbrev pub is_spent : phase.Want → Bool
is_spent want.Spent = true
is_spent want.Pick = false
is_spent want.Text = false
is_spent want.Send = false
is_spent want.Closed = false

-- it was asked for a line that its script doesn't have
abbrev pub is_asked : Option Serving → Bool
is_asked None = false
is_asked (Some s) = is_spent (services.want s)

-- the ends on which one waits with these branches, in turn: a race on one for each branch
abbrev pub waited_by : (targets : List ℕ) → (ℕ → Want) → (i : ℕ) → Option ℕ
waited_by [] f i = slice_get (watched (f 0)) i
waited_by (to ∷ targets) f i = slice_get (watched (f i)) 0

-- the end on which who stands at a number waits as the one with this place
abbrev pub waited_at : Code → Drawn → Option Proc → (i : ℕ) → Option ℕ
waited_at code d None i = None
waited_at code d (Some q) i = waited_by (targets_of code q.life) (wanted code d q.life) i
