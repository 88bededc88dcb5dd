-- The reductions: what the next command of a process or service does to a configuration.
use Rattle.std.specs.Prelude.{◌≡◌, ℕ, List, [], ◌∷◌, Option, Some, None, map, option_map, if◌then◌else◌}
use Rattle.campl_machine.specs.Names.{End, Who}
use Rattle.campl_machine.specs.Machine.{Config, Act, Moves, Looks, Links, Stands, Breaks, performs}
use Rattle.campl_types.specs.World.{World}
use Rattle.campl_meaning.specs.States.{Message, State, Kind, Command}
use Rattle.campl_meaning.specs.Wants.{wants}

-- a configuration of this language
abbrev pub Configuration : Type 0
Configuration = Config State Message

-- the language as a program of the machine
abbrev pub act_of : World → Who → State → ℕ → Act State Message
act_of w who state choice = (wants w who state choice).act

-- what a reduction did, by names
pub record Event : Type 0 where
  pub kind : Kind
  pub end : Option End
  pub second : Option End
  pub message : Option Message
  pub children : List Who
  pub channels : List (End × End)

abbrev oldest_in : List Message → Option Message
oldest_in [] = None
oldest_in (m ∷ ms) = Some m

-- the oldest message that an end's partner owes
abbrev pub oldest : Configuration → Option End → Option Message
oldest c None = None
oldest c (Some z) = oldest_in (c.owed z)

-- the message that is sent, or taken off
abbrev pub message_of : Configuration → Act State Message → Option Message
message_of c (Moves m) = option_map (λ s. s.1) m.send
message_of c (Looks takes x f) = if takes then oldest c (c.partner x) else None
message_of c (Links x y) = None
message_of c Stands = None
message_of c Breaks = None

-- the processes that are born
abbrev pub children_of : Act State Message → List Who
children_of (Moves m) = map (λ child. child.0) m.children
children_of (Looks takes x f) = []
children_of (Links x y) = []
children_of Stands = []
children_of Breaks = []

-- the channels that are born
abbrev pub channels_of : Act State Message → List (End × End)
channels_of (Moves m) = m.channels
channels_of (Looks takes x f) = []
channels_of (Links x y) = []
channels_of Stands = []
channels_of Breaks = []

abbrev pub event_of : Configuration → Command → Event
event_of c want = record {
  kind = want.kind;
  end = want.end;
  second = want.second;
  message = message_of c want.act;
  children = children_of want.act;
  channels = channels_of want.act;
}

abbrev pub reduce_command : Configuration → Who → Command → Option (Event × Configuration)
reduce_command c who want = option_map (λ d. (event_of c want, d)) (performs c who want.act)

abbrev pub reduce_state : World → Configuration → Who → ℕ → Option State → Option (Event × Configuration)
reduce_state w c who i None = None
reduce_state w c who i (Some state) = reduce_command c who (wants w who state i)

-- the reduction of a process or service, if it has one: what it did, and the configuration behind it; i is the branch of a race
abbrev pub reduce : World → Configuration → Who → ℕ → Option (Event × Configuration)
reduce w c who i = reduce_state w c who i (c.nodes who)

-- c becomes d by a reduction of `who` that is this event
abbrev pub Reduces : World → Configuration → Who → Event → Configuration → Type 0
Reduces w c who event d = (i : ℕ) × (reduce w c who i ≡ Some (event, d))
