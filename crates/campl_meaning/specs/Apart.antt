-- Where things stand in a configuration: what two steps need to have nothing in common. No typing is in it.
use Rattle.std.specs.Prelude.{◌≡◌, ◌≢◌, ℕ, ◌≤◌, ◌⊎◌, Bool, true, false, IsTrue, List, [], ◌∷◌, Option, Some, None, if◌then◌else◌, map}
use Rattle.campl_machine.specs.Names.{Path, End, Who, Process, Service, same_path, same_birth}
use Rattle.campl_machine.specs.Independence.{Paired}
use Rattle.campl_machine.specs.Graph.{Graph, NoCycle}
use Rattle.campl_types.specs.Names.{Name, found, are_distinct}
use Rattle.campl_service.specs.declared.phase.Phase.TheVariants.{Closed}
use Rattle.campl_meaning.specs.States.{Message, Word, Pick, EndPair, Ends, Running, Attending, State, Runs, Serves}
use Rattle.campl_meaning.specs.Reductions.{Configuration}

-- where an end stands: at a process or service, in the pair that an end owes, or nowhere
pub data Place : Type 0 where
  At : Who → Place
  In : End → Place
  Gone : Place

-- a pair with this end lies among the messages
abbrev pub IsCarried : List Message → End → Type 0
IsCarried [] e = ⊥
IsCarried (Word v ∷ ms) e = IsCarried ms e
IsCarried (Pick n ∷ ms) e = IsCarried ms e
IsCarried (EndPair f g ∷ ms) e = (e ≡ f) ⊎ ((e ≡ g) ⊎ IsCarried ms e)

abbrev pub end_names : Ends → List Name
end_names = map (λ e. e.0)

-- the end has a partner
abbrev pub IsJoined : Configuration → End → Type 0
IsJoined c e = (f : End) × (c.partner e ≡ Some f)

-- the end is held by the process, under a name
abbrev pub IsHeldBy : Configuration → Path → End → Type 0
IsHeldBy c p e = (r : Running) × (x : Name) × (c.nodes (Process p) ≡ Some (Runs r)) × (found x r.ends ≡ Some e)

-- it is that of an open service
abbrev pub IsServedBy : Configuration → ℕ → End → Type 0
IsServedBy c n e = (s : Attending) × (c.nodes (Service n) ≡ Some (Serves s)) × (s.end ≡ e) × (s.serving.phase ≢ Closed)

-- at a process's name a process runs, and at a service's a service serves
abbrev pub IsOfKind : Who → State → Type 0
IsOfKind (Process p) (Runs r) = Unit {0}
IsOfKind (Service n) (Serves s) = Unit {0}
IsOfKind (Process p) (Serves s) = ⊥
IsOfKind (Service n) (Runs r) = ⊥

-- Part 1: each end that has a partner stands at exactly one place
pub record IsPlaced (c : Configuration) (place : End → Place) : Type 0 where
  pub kinds : (who : Who) (s : State) → c.nodes who ≡ Some s → IsOfKind who s
  pub paired : Paired c
  pub idle : (e : End) → c.partner e ≡ None → c.owed e ≡ []
  pub nowhere : (e : End) → c.partner e ≡ None → place e ≡ Gone
  -- what is held, served or carried has a partner, and stands there
  pub held : (p : Path) (e : End) → IsHeldBy c p e → (place e ≡ At (Process p)) × IsJoined c e
  pub served : (n : ℕ) (e : End) → IsServedBy c n e → (place e ≡ At (Service n)) × IsJoined c e
  pub carried : (z e : End) → IsCarried (c.owed z) e → (place e ≡ In z) × IsJoined c e
  -- the end of a closed service is given up
  pub shut : (n : ℕ) (s : Attending) → c.nodes (Service n) ≡ Some (Serves s) → s.serving.phase ≡ Closed → (place s.end ≡ Gone) × IsJoined c s.end
  -- and what has a partner stands where it is held, served or carried
  pub holder : (p : Path) (e : End) → IsJoined c e → place e ≡ At (Process p) → IsHeldBy c p e
  pub server : (n : ℕ) (e : End) → IsJoined c e → place e ≡ At (Service n) → IsServedBy c n e
  pub carrier : (z e : End) → IsJoined c e → place e ≡ In z → IsCarried (c.owed z) e
  -- a process's names differ, and so do its ends
  pub names : (p : Path) (r : Running) → c.nodes (Process p) ≡ Some (Runs r) → IsTrue (are_distinct (end_names r.ends))
  pub ends : (p : Path) (r : Running) (x y : Name) (e : End) → c.nodes (Process p) ≡ Some (Runs r) → found x r.ends ≡ Some e → found y r.ends ≡ Some e → x ≡ y

-- Part 6: the graph of processes, services and pairs that are owed, over the channels between them

pub data Node : Type 0 where
  Holder : Who → Node
  Pair : End → Node

abbrev pub owes_pair : List Message → Bool
owes_pair [] = false
owes_pair (Word v ∷ ms) = owes_pair ms
owes_pair (Pick n ∷ ms) = owes_pair ms
owes_pair (EndPair f g ∷ ms) = true

-- an end that was given up by `fork` stands at its pair
abbrev pub node_of : Place → End → List Message → Option Node
node_of (At who) e ms = Some (Holder who)
node_of (In z) e ms = Some (Pair z)
node_of Gone e ms = if owes_pair ms then Some (Pair e) else None

abbrev pub graph : Configuration → (End → Place) → Graph End Node
graph c place = record { partner = c.partner; at = λ e. node_of (place e) e (c.owed e) }

-- Part 7: names to be born are new

-- the number directly after p in a path that is longer than p and begins with p
abbrev pub number_after : Path → Path → Option ℕ
number_after [] [] = None
number_after [] (b ∷ q) = Some b.step
number_after (a ∷ p) [] = None
number_after (a ∷ p) (b ∷ q) = if same_birth a b then number_after p q else None

-- the same in an end's path followed by its step
abbrev pub number_in_end : Path → End → Option ℕ
number_in_end p e = if same_path p e.bearer then Some e.step else number_after p e.bearer

abbrev pub IsAtMost : Option ℕ → ℕ → Type 0
IsAtMost None n = Unit {0}
IsAtMost (Some k) n = k ≤ n

pub record IsNamed (c : Configuration) : Type 0 where
  pub paths : (p q : Path) (r : Running) (s : State) → c.nodes (Process p) ≡ Some (Runs r) → c.nodes (Process q) ≡ Some s → IsAtMost (number_after p q) r.steps
  pub channels : (p : Path) (r : Running) (e : End) → c.nodes (Process p) ≡ Some (Runs r) → IsJoined c e → IsAtMost (number_in_end p e) r.steps

-- parts 1, 6 and 7
pub record IsApart (c : Configuration) (place : End → Place) : Type 0 where
  pub placed : IsPlaced c place
  pub forest : NoCycle (graph c place)
  pub named : IsNamed c
