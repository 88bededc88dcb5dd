-- Steps of services.
use Rattle.std.specs.Prelude.{◌≡◌, ℕ, suc, ◌≤◌, Bool, true, false, Option, Some, None, is_some, nat_lt, option_map}
use Rattle.campl_value.specs.Text.{chars_of}
use Rattle.campl_value.specs.declared.message.Message.{Message}
use Rattle.campl_value.specs.declared.message.Message.TheVariants as m
use Rattle.campl_service.specs.Services as services
use Rattle.campl_service.specs.Services.{Serving, Suits}
use Rattle.campl_cells.specs.Parts.{Mail, Proc}
use Rattle.campl_cells.specs.Parts as c
use Rattle.campl_cells.specs.Wants.{hears}
use Rattle.campl_parts.specs.declared.part.Life.{Life}
use Rattle.campl_parts.specs.declared.part.Life.TheVariants as l

abbrev pub is_request : Message → Bool
is_request (m.Pick n) = nat_lt n 3
is_request (m.Word v) = false
is_request (m.Ends e f) = false

abbrev pub is_text : Message → Bool
is_text (m.Word v) = is_some (chars_of v)
is_text (m.Pick n) = false
is_text (m.Ends e f) = false

-- the service takes the message, or it can't
abbrev pub IsSuited : Bool → Serving → Message → Type 0
IsSuited true s message = Suits (services.want s) (Some message)
IsSuited false s message = (e : ℕ) → hears e s message ≡ None

-- a service has the memory of its next step
abbrev pub IsRoomy : Life → Type 0
IsRoomy l.Ended = Unit {0}
IsRoomy (l.Runs r) = Unit {0}
IsRoomy (l.Serves e service) = 1 ≤ service.value.spare

-- it is a service that is given what it waits for, with the memory for it
abbrev pub IsReady : Life → Option Message → Type 0
IsReady l.Ended given = ⊥
IsReady (l.Runs r) given = ⊥
IsReady (l.Serves e service) given = Suits (services.want service.value.serving) given × (1 ≤ service.value.spare)

-- it goes on, one step later
abbrev pub Goes : Proc → Proc → Type 0
Goes old new = (new.parent ≡ old.parent) × (new.born ≡ old.born) × (new.steps ≡ suc old.steps)

-- a service goes on with this message
abbrev pub Hears : Mail → c.Life → c.Life → Type 0
Hears mail (c.Serves e s) (c.Serves e2 s2) = (e2 ≡ e) × (option_map (λ a. a.0) (services.action s (Some mail)) ≡ Some s2)
Hears mail old new = ⊥

-- a service goes on and sends this
abbrev pub Says : Option Message → c.Life → c.Life → Type 0
Says sent (c.Serves e s) (c.Serves e2 s2) = (e2 ≡ e) × (services.action s None ≡ Some (s2, sent))
Says sent old new = ⊥
