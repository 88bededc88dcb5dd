-- Lawful configurations of a source: what holds of each that a run reaches.
use Rattle.std.specs.Prelude.{◌≡◌, ◌≢◌, ◌⊎◌, ℕ, List, [], ◌∷◌, ◌++◌, Option, Some, None, codes}
use Rattle.campl_tree.specs.declared.service.Side.{Side}
use Rattle.campl_tree.specs.declared.service.Side.TheVariants.{Input, Output}
use Rattle.campl_tree.specs.Plain.SeqType as s
use Rattle.campl_tree.specs.Plain.ChanType.{ChanType, Put, Get, TopBot, Named}
use Rattle.campl_tree.specs.Plain.Decl.{Program}
use Rattle.campl_machine.specs.Names.{Path, End, Who, Process, Service}
use Rattle.campl_machine.specs.Progress.{Within}
use Rattle.campl_types.specs.SameType.{nowhere, IsSameChan}
use Rattle.campl_types.specs.Prelude.{letters}
use Rattle.campl_types.specs.World.{World, world_of}
use Rattle.campl_types.specs.Polarity.{Splits}
use Rattle.campl_types.specs.Views.{View, turned, deed_of, side_of}
use Rattle.campl_types.specs.Fits.{Vars}
use Rattle.campl_types.specs.Held.{Channel, On}
use Rattle.campl_types.specs.Typed.{IsTyped}
use Rattle.campl_service.specs.declared.phase.ServiceKind.{ServiceKind}
use Rattle.campl_service.specs.declared.phase.ServiceKind.TheVariants.{Console, Terminal}
use Rattle.campl_service.specs.declared.phase.Phase.{Phase}
use Rattle.campl_service.specs.declared.phase.Phase.TheVariants as phase
use Rattle.campl_evaluation.specs.Typed.{AreBound}
use Rattle.campl_peel.specs.Trees.{ProcessesHaveTrees}
use Rattle.campl_peel.specs.Terms.{TermIsWellFormed, held_ends}
use Rattle.campl_meaning.specs.States.{Message, EndPair, Running, Attending, State, Runs, Serves}
use Rattle.campl_meaning.specs.Reductions.{Configuration}
use Rattle.campl_meaning.specs.Views.{view_in, TakesAll}
use Rattle.campl_meaning.specs.Apart.{Place, Gone, IsHeldBy, IsJoined, IsApart}

-- The source

-- the source is typed, and the parts of each plug are a tree
pub record IsAccepted (source : Program) : Type 0 where
  pub typed : IsTyped source
  pub trees : ProcessesHaveTrees source

-- the side and type of each end, or that nothing more comes
abbrev pub Channels : Type 0
Channels = End → Option Channel

abbrev pub seen : Channels → End → View
seen channel e = view_in (channel e)

-- Part 2: a process's term is well formed holding exactly its ends, under variables that its values are of
pub record IsTypedAt (w : World) (channel : Channels) (r : Running) : Type 0 where
  pub vars : Vars
  pub bound : AreBound w [] r.variables vars
  pub term : TermIsWellFormed w vars (held_ends channel r.ends) r.term

-- Part 3: what two partners have still to take leaves one type on opposite sides, or nothing
pub record Agree (w : World) (c : Configuration) (channel : Channels) (e f : End) : Type 0 where
  pub left : View
  pub mine : TakesAll w (seen channel e) (c.owed f) left
  pub yours : TakesAll w (seen channel f) (c.owed e) (turned left)

-- Part 4: a pair of ends is the last message of an end that was given up, and the receipt at which it will be taken gives its ends their types
pub record IsPairOf (w : World) (channel : Channels) (before : List Message) (y a b : End) : Type 0 where
  pub view : View
  pub first : ChanType
  pub second : ChanType
  pub reached : TakesAll w (seen channel y) before view
  pub splits : deed_of w view ≡ Splits first second
  pub is_first : (t : ChanType) × (channel a ≡ Some (On (side_of view) t)) × IsSameChan t first
  pub is_second : (t : ChanType) × (channel b ≡ Some (On (side_of view) t)) × IsSameChan t second

pub record AreLastPairs (w : World) (c : Configuration) (place : End → Place) (channel : Channels) : Type 0 where
  pub different : (z a b : End) (before after : List Message) → c.owed z ≡ before ++ (EndPair a b ∷ after) → a ≢ b
  pub last : (z a b : End) (before after : List Message) → c.owed z ≡ before ++ (EndPair a b ∷ after) → after ≡ []
  pub given_up : (z a b : End) (before after : List Message) → c.owed z ≡ before ++ (EndPair a b ∷ after) → (place z ≡ Gone) × (channel z ≡ None)
  pub typed : (z a b y : End) (before after : List Message) → c.owed z ≡ before ++ (EndPair a b ∷ after) → c.partner z ≡ Some y → IsPairOf w channel before y a b

-- Part 5: the side and type of a service's end, by its phase

abbrev pub service_side : ServiceKind → Side
service_side Console = Output
service_side Terminal = Input

abbrev pub own_chan : ServiceKind → ChanType
own_chan Console = Named nowhere (codes "Console") s.no_types
own_chan Terminal = Named nowhere (codes "StringTerminal") s.no_types

-- a text is taken, or sent
abbrev pub taking : ServiceKind → ChanType
taking Console = Get letters (own_chan Console)
taking Terminal = Put letters (own_chan Terminal)

abbrev pub sending : ServiceKind → ChanType
sending Console = Put letters (own_chan Console)
sending Terminal = Get letters (own_chan Terminal)

abbrev pub phase_type : ServiceKind → Phase → ChanType
phase_type kind phase.Pick = own_chan kind
phase_type kind phase.Text = taking kind
phase_type kind phase.Send = sending kind
phase_type kind phase.Closed = TopBot

pub record IsInPhase (channel : Channels) (s : Attending) : Type 0 where
  pub channel_type : ChanType
  pub held : channel s.end ≡ Some (On (service_side s.serving.kind) channel_type)
  pub same : IsSameChan channel_type (phase_type s.serving.kind s.serving.phase)

-- All parts

pub record Lawful (source : Program) (c : Configuration) : Type 0 where
  pub accepted : IsAccepted source
  pub channel : Channels
  pub place : End → Place
  -- the nodes that are there
  pub nodes : List Who
  pub listed : (who : Who) (s : State) → c.nodes who ≡ Some s → Within nodes who
  -- and the ends that have a partner
  pub ends : List End
  pub joined : (e : End) → IsJoined c e → Within ends e
  -- what is held has a type
  pub has_type : (p : Path) (e : End) → IsHeldBy c p e → (x : Channel) × (channel e ≡ Some x)
  -- 1, 6 and 7; and what is given up has nothing more, or may only be closed
  pub apart : IsApart c place
  pub given_up : (e : End) → IsJoined c e → place e ≡ Gone → (channel e ≡ None) ⊎ ((s : Side) × (channel e ≡ Some (On s TopBot)))
  -- 2
  pub typed : (p : Path) (r : Running) → c.nodes (Process p) ≡ Some (Runs r) → IsTypedAt (world_of source) channel r
  -- 3
  pub agree : (e f : End) → c.partner e ≡ Some f → Agree (world_of source) c channel e f
  -- 4
  pub pairs : AreLastPairs (world_of source) c place channel
  -- 5
  pub phases : (n : ℕ) (s : Attending) → c.nodes (Service n) ≡ Some (Serves s) → IsInPhase channel s
