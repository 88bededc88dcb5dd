-- The parts of a configuration by number: its processes and services, and the ends of its channels.
use Rattle.std.specs.Prelude.{ℕ, ◌+◌, ◌*◌, List, [], ◌∷◌, Option, Some, None, if◌then◌else◌, eqb}
use Rattle.campl_value.specs.declared.message.Message.{Message}
use Rattle.campl_service.specs.Services.{Serving}
use Rattle.campl_code_bodies.specs.Kept.{Kept}

-- a message, whose ends are numbers
abbrev pub Mail : Type 0
Mail = Message

-- the ends of channels by the channels' numbers in the code; a channel that wasn't set has none
abbrev pub Ends : Type 0
Ends = ℕ → Option ℕ

-- a process that runs: its block, its ends, and how far it ran the expressions of its next command
pub record Held : Type 0 where
  pub block : ℕ
  pub ends : Ends
  pub kept : Kept

pub data Life : Type 0 where
  Ended : Life
  Runs : Held → Life
  -- a service at its end
  Serves : (end : ℕ) → Serving → Life

-- a process or service, the process that bore it, at which of that one's steps, and how many steps it made
pub record Proc : Type 0 where
  pub life : Life
  pub parent : ℕ
  pub born : ℕ
  pub steps : ℕ

-- an end: the other end of its channel, and the messages that lie at it, the oldest first
pub record Tip : Type 0 where
  pub peer : Option ℕ
  pub inbox : List Mail

-- what there is at each number that is in use
pub record Parts : Type 0 where
  pub process : ℕ → Option Proc
  pub tip : ℕ → Option Tip

-- the two ends of a channel
abbrev pub near : (channel : ℕ) → ℕ
near c = 2 * c

abbrev pub far : (channel : ℕ) → ℕ
far c = 2 * c + 1

-- f, but x at i
abbrev pub put : {A : Type 0} → ℕ → A → (ℕ → A) → ℕ → A
put i x f k = if eqb i k then x else f k

-- f, but these at their numbers
abbrev pub written : {A : Type 0} → List (ℕ × A) → (ℕ → Option A) → ℕ → Option A
written [] f = f
written (e ∷ es) f = put e.0 (Some e.1) (written es f)

-- an end that has no partner, and at which nothing lies
abbrev pub bare : Tip
bare = record { peer = None; inbox = [] }

abbrev pub or_bare : Option Tip → Tip
or_bare None = bare
or_bare (Some t) = t

abbrev pub or_else : Option ℕ → ℕ → ℕ
or_else None e = e
or_else (Some f) e = f

-- the end whose messages lie at e: its peer, or itself where it has none
abbrev pub owner : (ℕ → Option Tip) → ℕ → ℕ
owner tip e = or_else (or_bare (tip e)).peer e
