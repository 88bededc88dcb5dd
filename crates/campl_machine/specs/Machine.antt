-- A machine of nodes that pass messages over channels with two ends, whatever its states S and its messages M are.
use Rattle.std.specs.Prelude.{◌≡◌, ◌≢◌, Bool, List, [], ◌∷◌, ◌++◌, ◌&&◌, ◌⊎◌, Option, Some, None, if◌then◌else◌}
use Rattle.campl_machine.specs.Names.{End, Who, same_end, same_who}

-- what there is at one time
pub record Config (S M : Type 0) : Type 0 where
  -- the state of each process and service that is there
  pub nodes : Who → Option S
  -- the other end of each end's channel
  pub partner : End → Option End
  -- what was sent on an end and not yet taken, the oldest first
  pub owed : End → List M

-- a step that waits for nothing: it sends at most one message, bears channels and children, and goes on as `next` or is gone
pub record Move (S M : Type 0) : Type 0 where
  pub send : Option (End × M)
  pub channels : List (End × End)
  pub children : List (Who × S)
  pub next : Option S

-- what a node does next
pub data Act (S M : Type 0) : Type 0 where
  -- it moves, without waiting
  Moves : Move S M → Act S M
  -- it waits for the oldest message that the end's partner owes, takes it off or leaves it, and goes on with it where it fits
  Looks : (takes : Bool) → End → (M → Option S) → Act S M
  -- it is an identity: it goes, and the partners of its two ends become partners
  Links : End → End → Act S M
  -- it makes no step as things are, as a service whose script is spent
  Stands : Act S M
  -- it can never go on, as a process whose expression has no value
  Breaks : Act S M

-- f, but for the listed values
abbrev pub update : {K V : Type 0} → (K → K → Bool) → List (K × V) → (K → V) → K → V
update same [] f k = f k
update same (e ∷ es) f k = if same e.0 k then e.1 else update same es f k

-- a name among those listed
abbrev pub Lies : {K V : Type 0} → List (K × V) → K → Type 0
Lies [] k = ⊥
Lies (e ∷ es) k = (e.0 ≡ k) ⊎ Lies es k

-- the halves of each of these channels are partners
abbrev pub both_ways : List (End × End) → List (End × Option End)
both_ways [] = []
both_ways (c ∷ cs) = (c.0, Some c.1) ∷ ((c.1, Some c.0) ∷ both_ways cs)

-- these children are there
abbrev pub alive : {S : Type 0} → List (Who × S) → List (Who × Option S)
alive [] = []
alive (c ∷ cs) = (c.0, Some c.1) ∷ alive cs

-- a message that is sent on an end goes last in what that end owes
abbrev pub sent : {M : Type 0} → Option (End × M) → (End → List M) → End → List M
sent None f e = f e
sent (Some x) f e = if same_end x.0 e then f e ++ (x.1 ∷ []) else f e

-- a list without its first
abbrev pub rest_of : {M : Type 0} → List M → List M
rest_of [] = []
rest_of (m ∷ ms) = ms

-- the oldest message that z owes is taken off, or is only looked at
abbrev pub taken : {M : Type 0} → Bool → End → (End → List M) → End → List M
taken takes z f e = if takes && same_end z e then rest_of (f e) else f e

-- what x owes goes before what y2 owes, and what y owes before what x2 owes; x and y owe nothing more
abbrev pub joined : {M : Type 0} → End → End → End → End → (End → List M) → End → List M
joined x y x2 y2 f = update same_end ((x, []) ∷ (y, []) ∷ (y2, f x ++ f y2) ∷ (x2, f y ++ f x2) ∷ []) f

-- x2 and y2 become partners, and x and y have none
abbrev pub rewired : End → End → End → End → List (End × Option End)
rewired x y x2 y2 = (x, None) ∷ (y, None) ∷ (x2, Some y2) ∷ (y2, Some x2) ∷ []

-- after a move of p
abbrev pub moved : {S M : Type 0} → Config S M → Who → Move S M → Config S M
moved c p m = record {
  nodes = update same_who ((p, m.next) ∷ alive m.children) c.nodes;
  partner = update same_end (both_ways m.channels) c.partner;
  owed = sent m.send c.owed;
}

-- after p looked at the oldest message that z owes, and went on as s
abbrev pub looked : {S M : Type 0} → Config S M → Who → Bool → End → S → Config S M
looked c p takes z s = record {
  nodes = update same_who ((p, Some s) ∷ []) c.nodes;
  partner = c.partner;
  owed = taken takes z c.owed;
}

-- after the identity p of the ends x and y: it is gone, and their partners x2 and y2 are partners
abbrev pub linked : {S M : Type 0} → Config S M → Who → End → End → End → End → Config S M
linked c p x y x2 y2 = record {
  nodes = update same_who ((p, None) ∷ []) c.nodes;
  partner = update same_end (rewired x y x2 y2) c.partner;
  owed = joined x y x2 y2 c.owed;
}

-- c becomes d where p does this
abbrev pub Does : {S M : Type 0} → Config S M → Who → Act S M → Config S M → Type 0
Does c p (Moves m) d = d ≡ moved c p m
Does {S} {M} c p (Looks takes x k) d =
    (z : End) × (m : M) × (rest : List M) × (s : S) × (c.partner x ≡ Some z) × (c.owed z ≡ m ∷ rest) × (k m ≡ Some s) × (d ≡ looked c p takes z s)
Does c p (Links x y) d =
    (x2 : End) × (y2 : End) × (c.partner x ≡ Some x2) × (c.partner y ≡ Some y2) × (x ≢ y) × (x2 ≢ y) × (d ≡ linked c p x y x2 y2)
Does c p Stands d = ⊥
Does c p Breaks d = ⊥

-- with the end, where there is one
abbrev pub at : {A : Type 0} → Option End → A → (End → A) → A
at None none some = none
at (Some e) none some = some e

-- p goes on where the message that it looked at fits
abbrev pub goes : {S M : Type 0} → Config S M → Who → Bool → End → Option S → Option (Config S M)
goes c p takes z None = None
goes c p takes z (Some s) = Some (looked c p takes z s)

-- p looks at the first of what z owes
abbrev pub looks_at : {S M : Type 0} → Config S M → Who → Bool → (M → Option S) → End → List M → Option (Config S M)
looks_at c p takes k z [] = None
looks_at c p takes k z (m ∷ ms) = goes c p takes z (k m)

-- an identity of x and y with these partners; of an end with itself or with its partner there is none
abbrev pub links_at : {S M : Type 0} → Config S M → Who → End → End → Option End → Option End → Option (Config S M)
links_at c p x y (Some x2) (Some y2) = if same_end x y then None else if same_end x2 y then None else Some (linked c p x y x2 y2)
links_at c p x y None o = None
links_at c p x y (Some x2) None = None

-- what c becomes where p does this, if it can: `Does` as a function that computes
abbrev pub performs : {S M : Type 0} → Config S M → Who → Act S M → Option (Config S M)
performs c p (Moves m) = Some (moved c p m)
performs c p (Looks takes x k) = at (c.partner x) None (λ z. looks_at c p takes k z (c.owed z))
performs c p (Links x y) = links_at c p x y (c.partner x) (c.partner y)
performs c p Stands = None
performs c p Breaks = None

-- the ends that a step uses
abbrev pub Uses : {S M : Type 0} → Act S M → End → Type 0
Uses {S} {M} (Moves m) e = (v : M) × (m.send ≡ Some (e, v))
Uses (Looks takes x k) e = e ≡ x
Uses (Links x y) e = (e ≡ x) ⊎ (e ≡ y)
Uses Stands e = ⊥
Uses Breaks e = ⊥

-- the ends that it bears
abbrev pub ends_born : {S M : Type 0} → Act S M → List (End × Option End)
ends_born (Moves m) = both_ways m.channels
ends_born (Looks takes x k) = []
ends_born (Links x y) = []
ends_born Stands = []
ends_born Breaks = []

-- the node that makes it, and those that it bears
abbrev pub nodes_born : {S M : Type 0} → Who → Act S M → List (Who × Option S)
nodes_born p (Moves m) = (p, m.next) ∷ alive m.children
nodes_born p (Looks takes x k) = (p, None) ∷ []
nodes_born p (Links x y) = (p, None) ∷ []
nodes_born p Stands = (p, None) ∷ []
nodes_born p Breaks = (p, None) ∷ []
