-- What is printed, read off the list of processes: behind the first stand the services.
use Rattle.std.specs.Prelude.{ℕ, ◌+◌, Bool, true, false, List, [], ◌∷◌, ◌++◌, Option, Some, None, codes, if◌then◌else◌, slice_get}
use Rattle.std.specs.Borrow.{Bor}
use Rattle.std.specs.Fmt.{decimal}
use Rattle.campl_tree.specs.declared.service.ServiceName.{ServiceName}
use Rattle.campl_types.specs.Names.{Name}
use Rattle.campl_service.specs.Services.{Attending, Serving, want}
use Rattle.campl_service.specs.Transcripts.{Records}
use Rattle.campl_service.specs.Output.{end_of_line, transcript_lines}
use Rattle.campl_service.specs.declared.phase.Want.{Want}
use Rattle.campl_service.specs.declared.phase.Want.TheVariants as w
use Rattle.campl_meaning.specs.Output.{spelled}
use Rattle.campl_parts.specs.declared.part.Life.{Life}
use Rattle.campl_parts.specs.declared.part.Life.TheVariants as l
use Rattle.campl_parts.specs.declared.part.ProcPart.{ProcPart}
use Rattle.campl_run.specs.declared.ended.Ended.{Ended}
use Rattle.campl_run.specs.declared.ended.Ended.TheVariants as v

-- a service that is borrowed, if one is
abbrev pub seen : Option (Bor Attending) → Option Serving
seen None = None
seen (Some s) = Some s.now.serving

-- the service of a life, if it is one
abbrev pub serving_in : Life → Option Serving
serving_in l.Ended = None
serving_in (l.Runs r) = None
serving_in (l.Serves e service) = Some service.value.serving

-- the service that is there, if one is
abbrev pub serving_of : Option ProcPart → Option Serving
serving_of None = None
serving_of (Some p) = serving_in p.life

-- what it has written down
abbrev pub transcript_told : Option Serving → Records
transcript_told None = []
transcript_told (Some s) = s.transcript

-- it wants a line, and its script has none left
abbrev pub is_spent : Want → Bool
is_spent w.Pick = false
is_spent w.Text = false
is_spent w.Send = false
is_spent w.Spent = true
is_spent w.Closed = false

-- it was asked with its script spent
abbrev pub is_asked : Option Serving → Bool
is_asked None = false
is_asked (Some s) = is_spent (want s)

-- the lines of a channel
abbrev pub lines_of : Name → Option Serving → List ℕ
lines_of name s = (codes "channel " ++ (spelled name ++ end_of_line)) ++ transcript_lines (transcript_told s)

-- the lines of the services from the k-th on
abbrev pub lines_from : ℕ → List ServiceName → List ProcPart → List ℕ
lines_from k [] ps = []
lines_from k (x ∷ xs) ps = lines_of x.name (serving_of (slice_get ps (k + 1))) ++ lines_from (k + 1) xs ps

-- the names of those from the k-th on that were asked with their scripts spent
abbrev pub asked_from : ℕ → List ServiceName → List ProcPart → List Name
asked_from k [] ps = []
asked_from k (x ∷ xs) ps = if is_asked (serving_of (slice_get ps (k + 1))) then x.name ∷ asked_from (k + 1) xs ps else asked_from (k + 1) xs ps

-- a name, behind a comma if it isn't the first
abbrev pub led : Bool → List ℕ → List ℕ
led true text = text
led false text = codes ", " ++ text

-- names with commas between them, and one in front if another stands there
abbrev pub led_names : Bool → List Name → List ℕ
led_names is_first [] = []
led_names is_first (x ∷ xs) = led is_first (spelled x) ++ led_names false xs

-- how the run ended, with the names of those that were asked
abbrev pub ending_told : Ended → (asked : List Name) → List ℕ
ending_told v.Finished asked = codes "finished"
ending_told v.Awaiting asked = codes "awaiting " ++ led_names true asked
ending_told v.OutOfSteps asked = codes "out of steps"
ending_told v.Broken asked = codes "broken"

-- how many steps were made
abbrev pub steps_told : (steps : ℕ) → List ℕ
steps_told steps = codes " after " ++ (decimal steps ++ (codes " steps" ++ end_of_line))

-- all lines
abbrev pub printed : List ServiceName → List ProcPart → Ended → (steps : ℕ) → List ℕ
printed names ps ended steps = lines_from 0 names ps ++ (ending_told ended (asked_from 0 names ps) ++ steps_told steps)
