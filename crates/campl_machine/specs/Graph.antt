-- Graphs whose edges are pairs of halves. A half has its partner, and stands at a node or nowhere.
use Rattle.std.specs.Prelude.{◌≡◌, ◌≢◌, List, [], ◌∷◌, Option, Some}

-- halves of edges (E) that stand at nodes (N)
pub record Graph (E N : Type 0) : Type 0 where
  pub partner : E → Option E
  pub at : E → Option N

-- the edge of the halves e and f leads from u to v
pub record Leads {E N : Type 0} (g : Graph E N) (e f : E) (u v : N) : Type 0 where
  pub there : g.partner e ≡ Some f
  pub back : g.partner f ≡ Some e
  pub from : g.at e ≡ Some u
  pub to : g.at f ≡ Some v

-- a walk from u to w over these edges, each named by the half where it begins
abbrev pub Walk : {E N : Type 0} → Graph E N → List E → N → N → Type 0
Walk g [] u w = u ≡ w
Walk {E} {N} g (e ∷ es) u w = (f : E) × (v : N) × Leads g e f u v × Walk g es v w

-- no step of the walk uses the edge of e
abbrev pub Avoids : {E N : Type 0} → Graph E N → E → List E → Type 0
Avoids g e [] = Unit {0}
Avoids {E} g e (x ∷ es) = (x ≢ e) × (g.partner x ≢ Some e) × Avoids g e es

-- no edge is used twice
abbrev pub UsesOnce : {E N : Type 0} → Graph E N → List E → Type 0
UsesOnce g [] = Unit {0}
UsesOnce g (e ∷ es) = Avoids g e es × UsesOnce g es

-- no closed walk of at least one edge uses each of its edges once
abbrev pub NoCycle : {E N : Type 0} → Graph E N → Type 0
NoCycle {E} {N} g = (e : E) (es : List E) (u : N) → Walk g (e ∷ es) u u → UsesOnce g (e ∷ es) → ⊥

-- each half's partner has it as its own partner, which is another half
pub record Mutual {E : Type 0} (partner : E → Option E) : Type 0 where
  pub back : (e f : E) → partner e ≡ Some f → partner f ≡ Some e
  pub other : (e : E) → partner e ≢ Some e
