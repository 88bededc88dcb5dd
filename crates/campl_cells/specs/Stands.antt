-- When parts by number stand for a configuration of the code's machine.
use Rattle.std.specs.Prelude.{◌≡◌, ◌≢◌, ◌≤◌, ◌⊎◌, ℕ, List, [], ◌∷◌, ◌++◌, Option, Some, None, IsSome, IfSome, map, option_map}
use Rattle.std.specs.List.{AllByRecursion}
use Rattle.std.specs.Option.{IsSomeAnd}
use Rattle.campl_value.specs.Tree.{Tree}
use Rattle.campl_value.specs.declared.message.Message.TheVariants.{Word, Pick, Ends as EndPair}
use Rattle.campl_machine.specs.Names.{Birth, Path, End, Who, Process, Service}
use Rattle.campl_machine.specs.Graph.{Mutual}
use Rattle.campl_service.specs.Services as services
use Rattle.campl_meaning.specs.States as s
use Rattle.campl_meaning.specs.States.{Message}
use Rattle.campl_meaning.specs.Reductions.{Event}
use Rattle.campl_code.specs.Instructions.{Code}
use Rattle.campl_code_bodies.specs.Commands as k
use Rattle.campl_code_bodies.specs.Commands.{Cell, CodeState, RunsCode, Beside}
use Rattle.campl_code_bodies.specs.Kept.{IsKept}
use Rattle.campl_code_bodies.specs.Running.{CodeConfiguration}
use Rattle.campl_cells.specs.Parts.{Mail, Ends, Held, Life, Ended, Runs, Serves, Proc, Tip, Parts, near, far, or_bare, or_else}
use Rattle.campl_cells.specs.Wants.{Drawn}
use Rattle.campl_cells.specs.Steps.{Entry, Change, IsLifeOf, IsChildOf, after}

-- the machine's names of the numbers
pub record Naming : Type 0 where
  pub who : ℕ → Who
  pub end : ℕ → End

-- The same under the machine's names

abbrev pub named_mail : (ℕ → End) → Mail → Message
named_mail name (Word v) = s.Word v
named_mail name (Pick n) = s.Pick n
named_mail name (EndPair e f) = s.EndPair (name e) (name f)

abbrev pub named_ends : (ℕ → End) → Ends → k.Ends
named_ends name ends n = option_map name (ends n)

abbrev pub named_child : Naming → Option ℕ → List Who
named_child n None = []
named_child n (Some i) = n.who i ∷ []

abbrev pub named_channels : Naming → Option ℕ → Option ℕ → List (End × End)
named_channels n None second = []
named_channels n (Some c) None = (n.end (near c), n.end (far c)) ∷ []
named_channels n (Some c) (Some c2) = (n.end (near c), n.end (far c)) ∷ (n.end (near c2), n.end (far c2)) ∷ []

-- the event of the machine that an entry tells
abbrev pub named_entry : Naming → Entry → Event
named_entry n e = record {
  kind = e.kind;
  end = option_map n.end e.end;
  second = option_map n.end e.second;
  message = option_map (named_mail n.end) e.message;
  children = named_child n e.child;
  channels = named_channels n e.channel e.channel2;
}

-- Processes

-- the cell at this place with so many steps, whose expressions began there with so many calls
abbrev pub cell_of : (ℕ → End) → Held → (steps at : ℕ) → List Tree → (spent : ℕ) → Cell
cell_of name h steps at vars spent = record { block = h.block; at = at; vars = vars; ends = named_ends name h.ends; steps = steps; spent = spent }

-- a process of this name runs, and what it keeps is what its cell's expressions come to
pub record IsCell (code : Code) (name : ℕ → End) (who : Who) (steps : ℕ) (h : Held) (node : Option CodeState) : Type 0 where
  pub path : Path
  pub process : who ≡ Process path
  pub at : ℕ
  pub vars : List Tree
  pub spent : ℕ
  pub runs : node ≡ Some (RunsCode (cell_of name h steps at vars spent))
  pub kept : IsKept code (cell_of name h steps at vars spent) h.kept

-- a service of this name is at its end
pub record IsServing (name : ℕ → End) (who : Who) (e : ℕ) (serving : services.Serving) (node : Option CodeState) : Type 0 where
  pub number : ℕ
  pub service : who ≡ Service number
  pub serves : node ≡ Some (Beside (s.Serves (record { end = name e; serving = serving })))

-- what the machine has at a name
abbrev pub IsNode : Code → (ℕ → End) → Who → (steps : ℕ) → Life → Option CodeState → Type 0
IsNode code name who steps Ended node = node ≡ None
IsNode code name who steps (Runs h) node = IsCell code name who steps h node
IsNode code name who steps (Serves e serving) node = IsServing name who e serving node

-- each part stands for what the configuration has at its name, and nothing else is there
pub record Shows (code : Code) (n : Naming) (m : Parts) (c : CodeConfiguration) : Type 0 where
  pub process : (i : ℕ) → IfSome (m.process i) (λ q. IsNode code n.end (n.who i) q.steps q.life (c.nodes (n.who i)))
  -- an end's peer is its partner
  pub partner : (e : ℕ) → IfSome (m.tip e) (λ t. c.partner (n.end e) ≡ option_map n.end t.peer)
  -- what lies at it is what its peer owes, or it itself where it has none
  pub owed : (e : ℕ) → IfSome (m.tip e) (λ t. c.owed (n.end (or_else t.peer e)) ≡ map (named_mail n.end) t.inbox)
  pub no_node : (w : Who) → ((i : ℕ) → IsSome (m.process i) → n.who i ≢ w) → c.nodes w ≡ None
  pub no_end : (e : End) → ((k : ℕ) → IsSome (m.tip k) → n.end k ≢ e) → (c.partner e ≡ None) × (c.owed e ≡ [])

-- Names

abbrev pub birth : ℕ → Birth
birth step = record { step = step; place = 1 }

-- a process of this path is the first one, or the child of its parent at the step of its birth, which the parent has made
pub record IsBorn (n : Naming) (process : ℕ → Option Proc) (q : Proc) (path : Path) : Type 0 where
  pub parent : Path
  pub named : n.who q.parent ≡ Process parent
  pub path_is : path ≡ parent ++ birth q.born ∷ []
  pub made : IsSomeAnd (process q.parent) (λ r. q.born ≤ r.steps)

-- the process that bore the channel of this end has made the step of its birth
pub record IsBorneBy (n : Naming) (process : ℕ → Option Proc) (e : End) : Type 0 where
  pub number : ℕ
  pub named : n.who number ≡ Process e.bearer
  pub made : IsSomeAnd (process number) (λ q. e.step ≤ q.steps)

-- names come from births, and no name is used twice
pub record Named (n : Naming) (m : Parts) : Type 0 where
  pub births : (i : ℕ) → IfSome (m.process i) (λ q. (path : Path) → n.who i ≡ Process path → (path ≡ []) ⊎ IsBorn n m.process q path)
  pub bearers : (e : ℕ) → IsSome (m.tip e) → IsBorneBy n m.process (n.end e)
  pub processes : (i j : ℕ) → IsSome (m.process i) → IsSome (m.process j) → n.who i ≡ n.who j → i ≡ j
  pub ends : (e f : ℕ) → IsSome (m.tip e) → IsSome (m.tip f) → n.end e ≡ n.end f → e ≡ f

-- Wires

-- the two ends of a message are there
abbrev pub MailWithin : (ℕ → Type 0) → Mail → Type 0
MailWithin There (Word v) = Unit {0}
MailWithin There (Pick k) = Unit {0}
MailWithin There (EndPair e f) = There e × There f

abbrev pub LifeWithin : (ℕ → Type 0) → Life → Type 0
LifeWithin There Ended = Unit {0}
LifeWithin There (Runs h) = (k : ℕ) → IfSome (h.ends k) There
LifeWithin There (Serves e serving) = There e

abbrev pub IsEnd : (ℕ → Option Tip) → ℕ → Type 0
IsEnd tip e = IsSome (tip e)

-- peers are mutual, and each end that a process or a message holds is there
pub record Wired (m : Parts) : Type 0 where
  pub peers : Mutual (λ e. (or_bare (m.tip e)).peer)
  pub held : (i : ℕ) → IfSome (m.process i) (λ q. LifeWithin (IsEnd m.tip) q.life)
  pub carried : (e : ℕ) → IfSome (m.tip e) (λ t. AllByRecursion (MailWithin (IsEnd m.tip)) t.inbox)

-- m stands for c under the naming n
pub record StandsFor (code : Code) (n : Naming) (m : Parts) (c : CodeConfiguration) : Type 0 where
  pub shows : Shows code n m c
  pub named : Named n m
  pub wired : Wired m

-- Steps

-- each number that the entry has is in use
pub record IsEntryOf (m : Parts) (e : Entry) : Type 0 where
  pub process : IsSome (m.process e.process)
  pub end : IfSome e.end (IsEnd m.tip)
  pub second : IfSome e.second (IsEnd m.tip)
  pub message : IfSome e.message (MailWithin (IsEnd m.tip))
  pub child : IfSome e.child (λ i. IsSome (m.process i))
  pub channel : IfSome e.channel (λ c. IsEnd m.tip (near c) × IsEnd m.tip (far c))
  pub channel2 : IfSome e.channel2 (λ c. IsEnd m.tip (near c) × IsEnd m.tip (far c))

-- the names of the numbers in use stay
pub record Grows (n n2 : Naming) (m : Parts) : Type 0 where
  pub who : (i : ℕ) → IsSome (m.process i) → n2.who i ≡ n.who i
  pub end : (e : ℕ) → IsSome (m.tip e) → n2.end e ≡ n.end e

-- the numbers that are drawn aren't in use
pub record IsFresh (d : Drawn) (m : Parts) : Type 0 where
  pub child : m.process d.child ≡ None
  pub near_end : m.tip (near d.channel) ≡ None
  pub far_end : m.tip (far d.channel) ≡ None
  pub near_end2 : m.tip (near d.channel2) ≡ None
  pub far_end2 : m.tip (far d.channel2) ≡ None
  pub two_channels : d.channel ≢ d.channel2

-- no reduction, and no change; or the event that the entry tells, and each parts that the change leads to stand for what
-- the reduction gives, under a naming that leaves the old names
abbrev pub StepsAlike : Code → Naming → Drawn → Parts → (p : ℕ) → Proc → Option (Event × CodeConfiguration) → Option Change → Type 0
StepsAlike code n d m p q None None = Unit {0}
StepsAlike code n d m p q (Some r) (Some change) = (n2 : Naming) × Grows n n2 m × (r.0 ≡ named_entry n2 change.entry) ×
    ((life : Life) (child : Option Life) → IsLifeOf code change.next life → IsChildOf code change.child child → StandsFor code n2 (after d m p q change life child) r.1)
StepsAlike code n d m p q (Some r) None = ⊥
StepsAlike code n d m p q None (Some change) = ⊥
