-- A source's code as a program of the machine, beside the source itself.
use Rattle.std.specs.Prelude.{◌≡◌, ℕ, ◌+◌, List, [], ◌∷◌, Option, Some, None, map, option_map, if◌then◌else◌, nat_lt, length, slice_get, codes}
use Rattle.campl_machine.specs.Names.{End, Who, Process, Service, same_end, same_who}
use Rattle.campl_machine.specs.Machine.{Config, Act, Moves, Looks, Links, Stands, Breaks, performs, update, both_ways}
use Rattle.campl_types.specs.World.{World}
use Rattle.campl_service.specs.Services as services
use Rattle.campl_meaning.specs.States as k
use Rattle.campl_meaning.specs.States.{Message, State, Runs, Serves, Attending, Command}
use Rattle.campl_meaning.specs.Wants.{serving_command}
use Rattle.campl_meaning.specs.Reductions.{Configuration, Event}
use Rattle.campl_meaning.specs.Start.{near, wires, attending}
use Rattle.campl_types.specs.Run.{services_of}
use Rattle.campl_service.specs.Scripts.{Lines}
use Rattle.campl_code.specs.Instructions.{Code, Block}
use Rattle.campl_code_bodies.specs.Commands.{Cell, CodeState, RunsCode, Beside, CodeCommand, command, wanted, run_of}
use Rattle.campl_code.specs.Runs.{IsOver}
use Rattle.campl_code.specs.Frames.{frame_of}
use Rattle.campl_code_bodies.specs.Alike.{StandsState, OptionAlike}
use Rattle.campl_code_bodies.specs.BodyCode.{process_number}

abbrev pub CodeConfiguration : Type 0
CodeConfiguration = Config CodeState Message

-- Services do what they do

abbrev pub beside : Option State → Option CodeState
beside = option_map Beside

abbrev pub beside_children : List (Who × State) → List (Who × CodeState)
beside_children [] = []
beside_children (c ∷ cs) = (c.0, Beside c.1) ∷ beside_children cs

abbrev pub act_beside : Act State Message → Act CodeState Message
act_beside (Moves m) = Moves (record { send = m.send; channels = m.channels; children = beside_children m.children; next = beside m.next })
act_beside (Looks takes e f) = Looks takes e (λ m. beside (f m))
act_beside (Links e f) = Links e f
act_beside Stands = Stands
act_beside Breaks = Breaks

abbrev pub command_beside : Command → CodeCommand
command_beside c = record { kind = c.kind; end = c.end; second = c.second; act = act_beside c.act }

-- what a process or service of this name wants to do next, where runs of expressions make at most n instructions
abbrev pub wants : Code → (n : ℕ) → Who → CodeState → (choice : ℕ) → CodeCommand
wants code n (Process p) (RunsCode c) i = wanted code c p i (run_of code n c)
wants code n (Service m) (Beside (Serves s)) i = command_beside (serving_command s (services.want s.serving))
wants code n (Service m) (Beside (Runs r)) i = command k.Work None Stands
wants code n (Process p) (Beside s) i = command k.ServePick None Stands
wants code n (Service m) (RunsCode c) i = command k.Work None Stands

-- Reductions

abbrev pub oldest_in : List Message → Option Message
oldest_in [] = None
oldest_in (m ∷ ms) = Some m

abbrev pub oldest : CodeConfiguration → Option End → Option Message
oldest c None = None
oldest c (Some z) = oldest_in (c.owed z)

abbrev pub message_of : CodeConfiguration → Act CodeState Message → Option Message
message_of c (Moves m) = option_map (λ s. s.1) m.send
message_of c (Looks takes x f) = if takes then oldest c (c.partner x) else None
message_of c (Links x y) = None
message_of c Stands = None
message_of c Breaks = None

abbrev pub children_of : Act CodeState Message → List Who
children_of (Moves m) = map (λ child. child.0) m.children
children_of (Looks takes x f) = []
children_of (Links x y) = []
children_of Stands = []
children_of Breaks = []

abbrev pub channels_of : Act CodeState Message → List (End × End)
channels_of (Moves m) = m.channels
channels_of (Looks takes x f) = []
channels_of (Links x y) = []
channels_of Stands = []
channels_of Breaks = []

abbrev pub event_of : CodeConfiguration → CodeCommand → Event
event_of c want = record {
  kind = want.kind;
  end = want.end;
  second = want.second;
  message = message_of c want.act;
  children = children_of want.act;
  channels = channels_of want.act;
}

abbrev pub reduce_command : CodeConfiguration → Who → CodeCommand → Option (Event × CodeConfiguration)
reduce_command c who want = option_map (λ d. (event_of c want, d)) (performs c who want.act)

abbrev pub reduce_state : Code → ℕ → CodeConfiguration → Who → ℕ → Option CodeState → Option (Event × CodeConfiguration)
reduce_state code n c who i None = None
reduce_state code n c who i (Some state) = reduce_command c who (wants code n who state i)

-- the code's reduction of a process or service, if it has one
abbrev pub reduce_code : Code → (n : ℕ) → CodeConfiguration → Who → ℕ → Option (Event × CodeConfiguration)
reduce_code code n c who i = reduce_state code n c who i (c.nodes who)

-- Configurations

-- each process stands for its own; the services, channels and messages are the same
pub record Stand (w : World) (code : Code) (c : CodeConfiguration) (d : Configuration) : Type 0 where
  pub nodes : (who : Who) → OptionAlike (StandsState w code) (c.nodes who) (d.nodes who)
  pub partner : (e : End) → c.partner e ≡ d.partner e
  pub owed : (e : End) → c.owed e ≡ d.owed e

-- the same event, and configurations that stand for one another again; or no reduction of either
abbrev pub ReduceAlike : World → Code → Option (Event × CodeConfiguration) → Option (Event × Configuration) → Type 0
ReduceAlike w code None None = Unit {0}
ReduceAlike w code (Some c) (Some d) = (c.0 ≡ d.0) × Stand w code c.1 d.1
ReduceAlike w code None (Some d) = ⊥
ReduceAlike w code (Some c) None = ⊥

-- so many instructions are enough for the run of a process's expressions
abbrev pub IsEnough : Code → ℕ → Option CodeState → Type 0
IsEnough code n (Some (RunsCode c)) = IsOver (run_of code n c)
IsEnough code n (Some (Beside s)) = Unit {0}
IsEnough code n None = Unit {0}

-- The start

abbrev pub beside_nodes : List (Who × Option State) → List (Who × Option CodeState)
beside_nodes [] = []
beside_nodes (n ∷ ns) = (n.0, beside n.1) ∷ beside_nodes ns

-- `run` has the first halves of the services' channels
abbrev pub first_ends : ℕ → ℕ → Option End
first_ends count n = if nat_lt n count then Some (near n) else None

-- the cell of `run`, the process with number g, whose block is b
abbrev pub first_cell : World → Code → (g : ℕ) → Block → Cell
first_cell w code g b = record {
  block = length code.functions + g;
  at = 0;
  vars = frame_of code.decisions b [];
  ends = first_ends (length (services_of w));
  steps = 0;
  spent = 0;
}

abbrev pub code_start : World → Code → ℕ → Block → List Lines → CodeConfiguration
code_start w code g b scripts = record {
  nodes = update same_who ((Process [], Some (RunsCode (first_cell w code g b))) ∷ beside_nodes (attending 0 (services_of w) scripts)) (λ who. None);
  partner = update same_end (both_ways (wires 0 (services_of w))) (λ e. None);
  owed = λ e. [];
}

abbrev pub starts_in : World → Code → ℕ → Option Block → List Lines → Option CodeConfiguration
starts_in w code g None scripts = None
starts_in w code g (Some b) scripts = Some (code_start w code g b scripts)

abbrev pub starts_at : World → Code → Option ℕ → List Lines → Option CodeConfiguration
starts_at w code None scripts = None
starts_at w code (Some g) scripts = starts_in w code g (slice_get code.processes g) scripts

-- where the code begins, if it has a block for `run`
abbrev pub code_begins : World → Code → List Lines → Option CodeConfiguration
code_begins w code scripts = starts_at w code (process_number w (codes "run")) scripts
