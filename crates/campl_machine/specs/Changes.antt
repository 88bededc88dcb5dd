-- What the steps of a machine do to the graph of its nodes: g is the graph before, and h the graph after.
use Rattle.std.specs.Prelude.{◌≡◌, ◌≢◌, ◌⊎◌, Some, None}
use Rattle.campl_machine.specs.Names.{End, same_end}
use Rattle.campl_machine.specs.Machine.{update, rewired}
use Rattle.campl_machine.specs.Graph.{Graph, Leads}

-- where u is after the node m became the node p
abbrev pub Becomes : {N : Type 0} → N → N → N → N → Type 0
Becomes p m u v = (u ≡ v) ⊎ ((u ≡ m) × (v ≡ p))

-- contraction: m became p over their edge x, y; each edge of h is another edge of g, whose halves `old_name` tells
pub record Contracts {E N : Type 0} (g h : Graph E N) (old_name : E → E) (x y : E) (p m : N) : Type 0 where
  pub merged : Leads g x y p m
  pub old : (e f : E) (u v : N) → Leads h e f u v →
      (a : N) × (b : N) × Leads g (old_name e) (old_name f) a b × Becomes p m a u × Becomes p m b v
  pub other : (e f : E) (u v : N) → Leads h e f u v → (old_name e ≢ x) × (old_name e ≢ y)
  pub one_to_one : (e f : E) (u v : N) (t r : E) (a b : N) → Leads h e f u v → Leads h t r a b → old_name e ≡ old_name t → e ≡ t

-- where u was before the node c was split off the node p
abbrev pub CameFrom : {N : Type 0} → N → N → N → N → Type 0
CameFrom p c u a = ((u ≢ c) × (a ≡ u)) ⊎ ((u ≡ c) × (a ≡ p))

-- splitting: c was split off p, with a new edge n, k between them; each other edge of h is one of g
pub record Splits {E N : Type 0} (g h : Graph E N) (n k : E) (p c : N) : Type 0 where
  pub apart : p ≢ c
  pub new : Leads h n k p c
  pub old : (e f : E) (u v : N) → Leads h e f u v → e ≢ n → e ≢ k →
      (a : N) × (b : N) × Leads g e f a b × CameFrom p c u a × CameFrom p c v b

-- removal: each edge of h is one of g
abbrev pub Removes : {E N : Type 0} → Graph E N → Graph E N → Type 0
Removes {E} {N} g h = (e f : E) (u v : N) → Leads h e f u v → Leads g e f u v

-- the identity p of its ends x and y, whose partners x2 and y2 become partners
pub record Identity {N : Type 0} (g h : Graph End N) (p : N) (x y x2 y2 : End) : Type 0 where
  pub partner_x : g.partner x ≡ Some x2
  pub partner_y : g.partner y ≡ Some y2
  pub two_ends : x ≢ y
  pub two_channels : x2 ≢ y
  pub at_x : g.at x ≡ Some p
  pub at_y : g.at y ≡ Some p
  pub partners : h.partner ≡ update same_end (rewired x y x2 y2) g.partner
  pub others : (e : End) → e ≢ x → e ≢ y → h.at e ≡ g.at e

-- a receipt by p on x of a message that carries ends: the message is a node, at whose end z it lies, and its other ends come to p
pub record Receipt {E N : Type 0} (g h : Graph E N) (p message : N) (x z : E) : Type 0 where
  pub lies : Leads g x z p message
  pub partners : h.partner ≡ g.partner
  pub gone : (e : E) → (e ≡ x) ⊎ (e ≡ z) → h.at e ≡ None
  pub others : (e : E) → e ≢ x → e ≢ z → (h.at e ≡ g.at e) ⊎ ((g.at e ≡ Some message) × (h.at e ≡ Some p))

-- a child is split off p and takes some of its ends; p holds the half n of the new channel between them, and the child k
pub record Peel {E N : Type 0} (g h : Graph E N) (p child : N) (n k : E) : Type 0 where
  pub partner_n : h.partner n ≡ Some k
  pub partner_k : h.partner k ≡ Some n
  pub at_n : h.at n ≡ Some p
  pub at_k : h.at k ≡ Some child
  pub apart : p ≢ child
  pub fresh : (e : E) → g.at e ≢ Some child
  pub partners : (e : E) → e ≢ n → e ≢ k → h.partner e ≡ g.partner e
  pub others : (e : E) → e ≢ n → e ≢ k → (h.at e ≡ g.at e) ⊎ ((h.at e ≡ Some child) × (g.at e ≡ Some p))

-- p bears two channels and a child, and sends the far halves l1 and l2 in a message: p holds n1, the child n2; some ends of p go to each of the new nodes
pub record Fork {E N : Type 0} (g h : Graph E N) (p child message : N) (n1 l1 n2 l2 : E) : Type 0 where
  pub partner_n1 : h.partner n1 ≡ Some l1
  pub partner_l1 : h.partner l1 ≡ Some n1
  pub partner_n2 : h.partner n2 ≡ Some l2
  pub partner_l2 : h.partner l2 ≡ Some n2
  pub at_n1 : h.at n1 ≡ Some p
  pub at_l1 : h.at l1 ≡ Some message
  pub at_n2 : h.at n2 ≡ Some child
  pub at_l2 : h.at l2 ≡ Some message
  pub apart : (p ≢ child) × (p ≢ message) × (child ≢ message)
  pub fresh : (e : E) → (g.at e ≢ Some child) × (g.at e ≢ Some message)
  pub partners : (e : E) → e ≢ n1 → e ≢ l1 → e ≢ n2 → e ≢ l2 → h.partner e ≡ g.partner e
  pub others : (e : E) → e ≢ n1 → e ≢ l1 → e ≢ n2 → e ≢ l2 →
      (h.at e ≡ g.at e) ⊎ ((g.at e ≡ Some p) × ((h.at e ≡ Some child) ⊎ (h.at e ≡ Some message)))

-- ends are given up, as by a close or by the end of a process
pub record GivesUp {E N : Type 0} (g h : Graph E N) : Type 0 where
  pub partners : h.partner ≡ g.partner
  pub others : (e : E) → (h.at e ≡ g.at e) ⊎ (h.at e ≡ None)
