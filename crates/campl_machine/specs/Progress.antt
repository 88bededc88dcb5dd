-- Nodes of a graph that point along edges, each at the edge on which it waits.
use Rattle.std.specs.Prelude.{◌≡◌, ◌⊎◌, Bool, true, List, [], ◌∷◌, Option, Some}
use Rattle.campl_machine.specs.Graph.{Graph, Leads}

-- x is one of the listed
abbrev pub Within : {N : Type 0} → List N → N → Type 0
Within [] x = ⊥
Within (y ∷ ys) x = (x ≡ y) ⊎ Within ys x

-- the nodes that are there are listed; each that points, points along an edge of its own to a node that is there; and none is pointed at from both halves
pub record Points {E N : Type 0} (g : Graph E N) (nodes : List N) (there : N → Bool) (point : N → Option E) : Type 0 where
  pub listed : (u : N) → there u ≡ true → Within nodes u
  pub along : (u : N) (e : E) → there u ≡ true → point u ≡ Some e → (f : E) × (v : N) × Leads g e f u v × (there v ≡ true)
  pub once : (u v : N) (e f : E) → point u ≡ Some e → point v ≡ Some f → Leads g e f u v → ⊥
