-- What a step does to the parts.
use Rattle.std.specs.Prelude.{◌≡◌, ℕ, suc, Bool, List, [], ◌∷◌, ◌++◌, Option, Some, None, option_map, if◌then◌else◌, eqb}
use Rattle.campl_value.specs.Tree.{Tree}
use Rattle.campl_meaning.specs.States as k
use Rattle.campl_meaning.specs.States.{Kind}
use Rattle.campl_code.specs.Instructions.{Code}
use Rattle.campl_code.specs.Frames.{frame_at}
use Rattle.campl_code.specs.Runs.{IsOver, run}
use Rattle.campl_code_bodies.specs.Commands.{Cell}
use Rattle.campl_code_bodies.specs.Kept.{Kept, kept_of, IsKept, spent_more}
use Rattle.campl_cells.specs.Parts.{Mail, Life, Ended, Runs, Serves, Proc, Tip, Parts, near, far, written, bare, or_bare, owner}
use Rattle.campl_cells.specs.Wants.{Drawn, Start, Next, Gone, Spends, Begins, Attends, Move, Want, Rests, Moves, Looks, Links, wanted}

-- what a step did, by numbers: the message that was sent or taken off, the child and the channels that were born
pub record Entry : Type 0 where
  pub process : ℕ
  pub kind : Kind
  pub weight : ℕ
  pub end : Option ℕ
  pub second : Option ℕ
  pub message : Option Mail
  pub child : Option ℕ
  pub channel : Option ℕ
  pub channel2 : Option ℕ

-- what a step changes: how its process goes on, how a child begins, and what the ends become, the last first
pub record Change : Type 0 where
  pub entry : Entry
  pub next : Next
  pub child : Option Start
  pub ends : List (ℕ × Tip)

-- Ends

abbrev pub joined_to : ℕ → Tip
joined_to e = record { peer = Some e; inbox = [] }

-- channels are born
abbrev pub borne : List ℕ → List (ℕ × Tip)
borne [] = []
borne (c ∷ cs) = borne cs ++ (far c, joined_to (near c)) ∷ (near c, joined_to (far c)) ∷ []

abbrev pub arrives : Mail → Tip → Tip
arrives mail t = record { peer = t.peer; inbox = t.inbox ++ mail ∷ [] }

-- a message on an end goes to the end's owner
abbrev pub sent : Option (ℕ × Mail) → (ℕ → Option Tip) → List (ℕ × Tip)
sent None tip = []
sent (Some s) tip = (owner tip s.0, arrives s.1 (or_bare (tip (owner tip s.0)))) ∷ []

-- other is the new peer, and what lay at the end that met it lies behind what lies here
abbrev pub meets : Tip → (other : ℕ) → Tip → Tip
meets t other met = record { peer = Some other; inbox = t.inbox ++ met.inbox }

-- the ends x and y are given up, and their peers x2 and y2 become peers
abbrev pub tips_joined : (ℕ → Option Tip) → (x y x2 y2 : ℕ) → List (ℕ × Tip)
tips_joined tip x y x2 y2 =
    (y2, meets (or_bare (tip y2)) x2 (or_bare (tip x))) ∷ (x2, meets (or_bare (tip x2)) y2 (or_bare (tip y))) ∷ (y, bare) ∷ (x, bare) ∷ []

-- Changes

abbrev pub first_of : List ℕ → Option ℕ
first_of [] = None
first_of (c ∷ cs) = Some c

abbrev pub second_of : List ℕ → Option ℕ
second_of [] = None
second_of (c ∷ cs) = first_of cs

abbrev pub child_number : Drawn → Option Start → Option ℕ
child_number d None = None
child_number d (Some s) = Some d.child

-- every step weighs 1
abbrev pub moved : (ℕ → Option Tip) → Drawn → (p : ℕ) → Kind → Option ℕ → Move → Change
moved tip d p kind end v = record {
  entry = record {
    process = p;
    kind = kind;
    weight = 1;
    end = end;
    second = None;
    message = option_map (λ s. s.1) v.send;
    child = child_number d v.child;
    channel = first_of v.channels;
    channel2 = second_of v.channels;
  };
  next = v.next;
  child = v.child;
  ends = sent v.send tip ++ borne v.channels;
}

abbrev pub looked : (p : ℕ) → Kind → (takes : Bool) → (e : ℕ) → Option ℕ → Mail → List Mail → Next → Change
looked p kind takes e peer mail rest next = record {
  entry = record {
    process = p;
    kind = kind;
    weight = 1;
    end = Some e;
    second = None;
    message = if takes then Some mail else None;
    child = None;
    channel = None;
    channel2 = None;
  };
  next = next;
  child = None;
  ends = if takes then (e, record { peer = peer; inbox = rest }) ∷ [] else [];
}

-- it looks at the first message of an end that has a peer
abbrev pub looks_in : (p : ℕ) → Kind → (takes : Bool) → (e : ℕ) → (Mail → Option Next) → Option ℕ → List Mail → Option Change
looks_in p kind takes e f None inbox = None
looks_in p kind takes e f (Some peer) [] = None
looks_in p kind takes e f (Some peer) (mail ∷ rest) = option_map (looked p kind takes e (Some peer) mail rest) (f mail)

abbrev pub linked : (ℕ → Option Tip) → (p x y x2 y2 : ℕ) → Change
linked tip p x y x2 y2 = record {
  entry = record {
    process = p;
    kind = k.Link;
    weight = 1;
    end = Some x;
    second = Some y;
    message = None;
    child = None;
    channel = None;
    channel2 = None;
  };
  next = Gone;
  child = None;
  ends = tips_joined tip x y x2 y2;
}

-- of an end with itself or with its peer there is no identity
abbrev pub links_at : (ℕ → Option Tip) → (p x y : ℕ) → Option ℕ → Option ℕ → Option Change
links_at tip p x y (Some x2) (Some y2) = if eqb x y then None else if eqb x2 y then None else Some (linked tip p x y x2 y2)
links_at tip p x y None peer = None
links_at tip p x y (Some x2) None = None

abbrev pub by_want : (ℕ → Option Tip) → Drawn → (p : ℕ) → Want → Option Change
by_want tip d p Rests = None
by_want tip d p (Moves kind end v) = Some (moved tip d p kind end v)
by_want tip d p (Looks kind takes e f) = looks_in p kind takes e f (or_bare (tip e)).peer (or_bare (tip e)).inbox
by_want tip d p (Links x y) = links_at tip p x y (or_bare (tip x)).peer (or_bare (tip y)).peer

-- what the next step of p, which is q, changes, if it has one; i is the branch of a race
abbrev pub change_of : Code → Drawn → Parts → (p : ℕ) → Proc → (i : ℕ) → Option Change
change_of code d m p q i = by_want m.tip d p (wanted code d q.life i)

-- What is kept

-- what is kept at this place of a block, before any call
abbrev pub KeptAt : Code → (block at : ℕ) → List Tree → Kept → Type 0
KeptAt code block at vars kept =
    (n : ℕ) × IsOver (run code n (frame_at block at vars) [] 0) × (kept ≡ kept_of (run code n (frame_at block at vars) [] 0))

-- what is kept, after one more call
abbrev pub KeptAfter : Code → Kept → Kept → Type 0
KeptAfter code old kept = (c : Cell) → IsKept code c old → IsKept code (spent_more 1 c) kept

-- this life goes on so
abbrev pub IsLifeOf : Code → Next → Life → Type 0
IsLifeOf code Gone life = life ≡ Ended
IsLifeOf code (Spends h) life = (kept : Kept) × (life ≡ Runs (record { block = h.block; ends = h.ends; kept = kept })) × KeptAfter code h.kept kept
IsLifeOf code (Begins s) life =
    (kept : Kept) × (life ≡ Runs (record { block = s.block; ends = s.ends; kept = kept })) × KeptAt code s.block s.at s.vars kept
IsLifeOf code (Attends e s) life = life ≡ Serves e s

abbrev pub IsChildOf : Code → Option Start → Option Life → Type 0
IsChildOf code None None = Unit {0}
IsChildOf code (Some s) (Some life) = IsLifeOf code (Begins s) life
IsChildOf code None (Some life) = ⊥
IsChildOf code (Some s) None = ⊥

-- The parts after a step

abbrev pub goes_on : Proc → Life → Proc
goes_on q life = record { life = life; parent = q.parent; born = q.born; steps = suc q.steps }

abbrev pub newborn : (p : ℕ) → Proc → Life → Proc
newborn p q life = record { life = life; parent = p; born = suc q.steps; steps = 0 }

abbrev pub peopled : Drawn → (p : ℕ) → Proc → Life → Option Life → List (ℕ × Proc)
peopled d p q life None = (p, goes_on q life) ∷ []
peopled d p q life (Some child) = (d.child, newborn p q child) ∷ (p, goes_on q life) ∷ []

-- the parts after this change of p, which was q and goes on as this life, with its child
abbrev pub after : Drawn → Parts → (p : ℕ) → Proc → Change → Life → Option Life → Parts
after d m p q change life child = record {
  process = written (peopled d p q life child) m.process;
  tip = written change.ends m.tip;
}

-- the next step of p by the branch i has this entry and leads from m to m2
pub record Steps (code : Code) (d : Drawn) (m : Parts) (p i : ℕ) (entry : Entry) (m2 : Parts) : Type 0 where
  pub process : Proc
  pub there : m.process p ≡ Some process
  pub change : Change
  pub changes : change_of code d m p process i ≡ Some change
  pub named : entry ≡ change.entry
  pub life : Life
  pub child : Option Life
  pub lives : IsLifeOf code change.next life
  pub bears : IsChildOf code change.child child
  pub parts : m2 ≡ after d m p process change life child

-- p has no next step by the branch i
abbrev pub IsStill : Code → Drawn → Parts → (p i : ℕ) → Type 0
IsStill code d m p i = (q : Proc) → m.process p ≡ Some q → change_of code d m p q i ≡ None
