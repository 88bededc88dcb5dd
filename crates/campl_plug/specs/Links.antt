-- Links, and the parts that they join.
use Rattle.std.specs.Prelude.{◌≡◌, ℕ, zero, suc, ◌≤◌, ◌⊎◌, List, [], ◌∷◌}
use Rattle.campl_plug.specs.declared.plug.Link.{Link}

-- the parts of a plug of k parts are 1 to k
pub record IsPart (k p : ℕ) : Type 0 where
  pub low : 1 ≤ p
  pub high : p ≤ k

-- a link between parts of a plug of k parts
pub record IsWithin (k : ℕ) (link : Link) : Type 0 where
  pub a_part : IsPart k link.a
  pub b_part : IsPart k link.b

-- the link joins the two parts, whichever of them it names first
abbrev pub Joins : Link → ℕ → ℕ → Type 0
Joins link p q = ((link.a ≡ p) × (link.b ≡ q)) ⊎ ((link.a ≡ q) × (link.b ≡ p))

-- one of the links joins the two parts
abbrev pub Linked : List Link → ℕ → ℕ → Type 0
Linked [] p q = ⊥
Linked (link ∷ links) p q = Joins link p q ⊎ Linked links p q

-- a path of n links leads from p to q
abbrev pub Path : List Link → ℕ → ℕ → ℕ → Type 0
Path links zero p q = p ≡ q
Path links (suc n) p q = (r : ℕ) × Path links n p r × Linked links r q

-- a path of links leads from p to q, of none where they are the same part
abbrev pub Joined : List Link → ℕ → ℕ → Type 0
Joined links p q = (n : ℕ) × Path links n p q
