-- Services: what they wait for, what they do, and what they write down.
use Rattle.std.specs.Prelude.{◌≡◌, ℕ, zero, suc, ◌<◌, Bool, true, false, List, [], ◌∷◌, ◌++◌, Option, Some, None, IsSome, if◌then◌else◌}
use Rattle.campl_value.specs.Tree.{Tree}
use Rattle.campl_value.specs.Text.{text_of, chars_of}
use Rattle.campl_value.specs.declared.message.Message.{Message}
use Rattle.campl_value.specs.declared.message.Message.TheVariants as m
use Rattle.campl_service.specs.declared.phase.ServiceKind.{ServiceKind}
use Rattle.campl_service.specs.declared.phase.ServiceKind.TheVariants.{Console, Terminal}
use Rattle.campl_service.specs.declared.phase.Phase.{Phase}
use Rattle.campl_service.specs.declared.phase.Phase.TheVariants as p
use Rattle.campl_service.specs.declared.phase.Want.{Want}
use Rattle.campl_service.specs.declared.phase.Want.TheVariants as w
use Rattle.campl_service.specs.declared.phase.Request.{Request}
use Rattle.campl_service.specs.declared.phase.Request.TheVariants.{Put, Get, Close}
use Rattle.campl_service.specs.Scripts.{Lines}
use Rattle.campl_service.specs.Transcripts.{Record, Took, Sent, Closed, Records}

-- what the constructors of a service ask of it; a constructor's number counts the lines of its declaration from 0
abbrev pub request : ServiceKind → ℕ → Option Request
request Console zero = Some Put
request Console (suc zero) = Some Get
request Terminal zero = Some Get
request Terminal (suc zero) = Some Put
request kind (suc (suc zero)) = Some Close
request kind (suc (suc (suc n))) = None

-- a service, but for the end that it holds
pub record Serving : Type 0 where
  pub kind : ServiceKind
  pub phase : Phase
  pub script : Lines
  pub transcript : Records

-- the same service in another phase
abbrev pub in_phase : Phase → Serving → Serving
in_phase phase s = record { kind = s.kind; phase = phase; script = s.script; transcript = s.transcript }

-- the same with a record behind the others
abbrev pub noting : Record → Serving → Serving
noting noted s = record { kind = s.kind; phase = s.phase; script = s.script; transcript = s.transcript ++ (noted ∷ []) }

-- the same with these lines still to send
abbrev pub with_script : Lines → Serving → Serving
with_script lines s = record { kind = s.kind; phase = s.phase; script = lines; transcript = s.transcript }

-- an action: the service behind it, and the message that was sent
abbrev pub Action : Type 0
Action = Serving × Option Message

-- it waits for a text, sends a line next, or is closed and writes that down
abbrev pub asked : Serving → Option Request → Option Action
asked s (Some Put) = Some (in_phase p.Text s, None)
asked s (Some Get) = Some (in_phase p.Send s, None)
asked s (Some Close) = Some (in_phase p.Closed (noting Closed s), None)
asked s None = None

-- the characters of a text are written down
abbrev pub took : Serving → Option (List ℕ) → Option Action
took s (Some characters) = Some (in_phase p.Pick (noting (Took characters) s), None)
took s None = None

-- the next line is taken off the script, written down and sent; with a spent script there is no action
abbrev pub sent : Serving → Lines → Option Action
sent s [] = None
sent s (line ∷ lines) = Some (in_phase p.Pick (noting (Sent line) (with_script lines s)), Some (m.Word (text_of line)))

-- the value of the next line
abbrev pub next_line : Lines → Option Tree
next_line [] = None
next_line (line ∷ lines) = Some (text_of line)

abbrev pub action_in : Phase → Serving → Option Message → Option Action
action_in p.Pick s (Some (m.Pick n)) = asked s (request s.kind n)
action_in p.Text s (Some (m.Word text)) = took s (chars_of text)
action_in p.Send s None = sent s s.script
action_in phase s given = None

-- the action of a service that is given this message, or none, if it has one
abbrev pub action : Serving → Option Message → Option Action
action s given = action_in s.phase s given

abbrev pub want_in : Phase → Lines → Want
want_in p.Pick lines = w.Pick
want_in p.Text lines = w.Text
want_in p.Send [] = w.Spent
want_in p.Send (line ∷ lines) = w.Send
want_in p.Closed lines = w.Closed

-- what a service wants
abbrev pub want : Serving → Want
want s = want_in s.phase s.script

-- it wants a constructor and is given one, wants a text and is given one, or is to send a line and is given nothing
abbrev pub Suits : Want → Option Message → Type 0
Suits w.Pick (Some (m.Pick n)) = n < 3
Suits w.Text (Some (m.Word text)) = IsSome (chars_of text)
Suits w.Send None = Unit {0}
Suits want given = ⊥

-- a service, and for how many actions it has the memory
pub record Attending : Type 0 where
  pub serving : Serving
  pub spare : ℕ

-- a line is to be sent whose value isn't there
abbrev pub lacks_word : Phase → Lines → Option Tree → Bool
lacks_word p.Send (line ∷ lines) None = true
lacks_word phase lines word = false

-- how many actions have their memory: a place for each record, and the value of the line that is to be sent
abbrev pub spare_of : Phase → Lines → Option Tree → (places : ℕ) → ℕ
spare_of phase lines word places = if lacks_word phase lines word then 0 else places

-- the value, if it is there, is that of the next line
abbrev pub IsNext : Option Tree → Lines → Type 0
IsNext None lines = Unit {0}
IsNext (Some word) [] = ⊥
IsNext (Some word) (line ∷ lines) = word ≡ text_of line
