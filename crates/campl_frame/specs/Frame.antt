-- The frame of a step: what a step of one process or service asks, so that a lawful configuration stays lawful.
use Rattle.std.specs.Prelude.{◌≡◌, ◌≢◌, ◌⊎◌, IsTrue, List, [], ◌∷◌, ◌++◌, Option, Some, None}
use Rattle.campl_tree.specs.declared.service.Side.{Side}
use Rattle.campl_tree.specs.Plain.ChanType.{TopBot}
use Rattle.campl_tree.specs.Plain.Decl.{Program}
use Rattle.campl_machine.specs.Names.{End, Who}
use Rattle.campl_machine.specs.Graph.{NoCycle}
use Rattle.campl_machine.specs.Independence.{Paired}
use Rattle.campl_machine.specs.Progress.{Within}
use Rattle.campl_types.specs.Names.{Name, are_distinct, found}
use Rattle.campl_types.specs.World.{World, world_of}
use Rattle.campl_types.specs.Held.{Channel, On}
use Rattle.campl_service.specs.declared.phase.Phase.TheVariants.{Closed}
use Rattle.campl_meaning.specs.States.{Message, EndPair, Running, Attending, State, Runs, Serves}
use Rattle.campl_meaning.specs.Reductions.{Configuration}
use Rattle.campl_meaning.specs.Apart.{Place, At, In, Gone, IsCarried, IsJoined, IsOfKind, IsNamed, graph, end_names}
use Rattle.campl_meaning.specs.Lawful.{Channels, seen, IsTypedAt, Agree, IsPairOf, IsInPhase, Lawful}

-- a process holds its ends, and an open service its own
abbrev pub Holds : State → End → Type 0
Holds (Runs r) e = (x : Name) × (found x r.ends ≡ Some e)
Holds (Serves a) e = (a.end ≡ e) × (a.serving.phase ≢ Closed)

-- what may be given up: nothing more comes, or it may only be closed
abbrev pub IsSpent : Option Channel → Type 0
IsSpent o = (o ≡ None) ⊎ ((s : Side) × (o ≡ Some (On s TopBot)))

-- a pair that is owed as it was before the step, and will be taken as it would have been
pub record IsOldPair (source : Program) (c d : Configuration) (l : Lawful source c) (from : Option End) (channel2 : Channels) (z a b : End) (before after : List Message) : Type 0 where
  pub owed : c.owed z ≡ before ++ (EndPair a b ∷ after)
  pub untaken : from ≢ Some z
  pub partner : (y : End) → d.partner z ≡ Some y → (c.partner z ≡ Some y) × (seen channel2 y ≡ seen l.channel y)

-- any other pair has by itself what lawfulness asks
pub record IsGoodPair (w : World) (d : Configuration) (place2 : End → Place) (channel2 : Channels) (z a b : End) (before after : List Message) : Type 0 where
  pub different : a ≢ b
  pub last : after ≡ []
  pub place : place2 z ≡ Gone
  pub channel : channel2 z ≡ None
  pub typed : (y : End) → d.partner z ≡ Some y → IsPairOf w channel2 before y a b

-- what a step leaves at `who`, if it goes on, and at the name of a child
abbrev pub IsLeft : Who → Option State → Option (Who × State) → Who → State → Type 0
IsLeft who next child v s = ((v ≡ who) × (next ≡ Some s)) ⊎ (child ≡ Some (v, s))

-- The step from c to d is one of `who`. What it leaves there, and at the name of a child, is `new`; all other nodes are as they were.
-- It may take the pair that the end `from` owes. No other end changes its place or its channel but those that stood at `who`.
pub record IsLocal (source : Program) (c d : Configuration) (l : Lawful source c) (who : Who) (new : Who → State → Type 0) (from : Option End)
    (channel2 : Channels) (place2 : End → Place) : Type 0 where
  -- nodes and channels
  pub here : (v : Who) (s : State) → new v s → d.nodes v ≡ Some s
  pub others : (v : Who) (s : State) → v ≢ who → c.nodes v ≡ Some s → d.nodes v ≡ Some s
  pub whose : (v : Who) (s : State) → d.nodes v ≡ Some s → new v s ⊎ ((v ≢ who) × (c.nodes v ≡ Some s))
  pub nodes : List Who
  pub listed : (v : Who) (s : State) → d.nodes v ≡ Some s → Within nodes v
  pub ends : List End
  pub within : (e : End) → IsJoined d e → Within ends e
  pub paired : Paired d
  pub joined : (e : End) → IsJoined c e → l.place e ≢ At who → IsJoined d e
  pub idle : (e : End) → d.partner e ≡ None → d.owed e ≡ []
  pub named : IsNamed d
  pub forest : NoCycle (graph d place2)
  -- ends that were elsewhere
  pub place : (e : End) → IsJoined c e → l.place e ≢ At who → ((z : End) → from ≡ Some z → l.place e ≢ In z) → place2 e ≡ l.place e
  pub channel : (e : End) → IsJoined c e → l.place e ≢ At who → ((z : End) → from ≡ Some z → l.place e ≢ In z) → channel2 e ≡ l.channel e
  -- each end where it stands now
  pub own : (v : Who) (s : State) (e : End) → new v s → Holds s e → (place2 e ≡ At v) × IsJoined d e
  pub at : (v : Who) (e : End) → IsJoined d e → place2 e ≡ At v → ((s : State) × new v s × Holds s e) ⊎ ((v ≢ who) × (l.place e ≡ At v) × IsJoined c e)
  pub carrier : (z e : End) → IsJoined d e → place2 e ≡ In z → IsCarried (d.owed z) e
  pub carried : (z e : End) → IsCarried (d.owed z) e → (IsCarried (c.owed z) e × (from ≢ Some z)) ⊎ ((place2 e ≡ In z) × IsJoined d e)
  pub gone : (e : End) → IsJoined d e → place2 e ≡ Gone → IsSpent (channel2 e) ⊎ ((l.place e ≡ Gone) × IsJoined c e)
  pub nowhere : (e : End) → d.partner e ≡ None → place2 e ≡ Gone
  -- what is new
  pub kinds : (v : Who) (s : State) → new v s → IsOfKind v s
  pub names : (v : Who) (r : Running) → new v (Runs r) → IsTrue (are_distinct (end_names r.ends))
  pub once : (v : Who) (r : Running) (x y : Name) (e : End) → new v (Runs r) → found x r.ends ≡ Some e → found y r.ends ≡ Some e → x ≡ y
  pub typed : (v : Who) (r : Running) → new v (Runs r) → IsTypedAt (world_of source) channel2 r
  pub types : (v : Who) (r : Running) (x : Name) (e : End) → new v (Runs r) → found x r.ends ≡ Some e → (t : Channel) × (channel2 e ≡ Some t)
  pub phases : (v : Who) (a : Attending) → new v (Serves a) → IsInPhase channel2 a
  pub shut : (v : Who) (a : Attending) → new v (Serves a) → a.serving.phase ≡ Closed → (place2 a.end ≡ Gone) × IsJoined d a.end
  -- what is owed
  pub agree : (e f : End) → d.partner e ≡ Some f → Agree (world_of source) d channel2 e f
  pub pairs : (z a b : End) (before after : List Message) → d.owed z ≡ before ++ (EndPair a b ∷ after) →
      IsOldPair source c d l from channel2 z a b before after ⊎ IsGoodPair (world_of source) d place2 channel2 z a b before after
