-- What a verdict tells of the tokens.
use Rattle.std.proofs.Common.{◌≡◌, ℕ, suc, ◌+◌, ◌≤◌, Bool, true, false, if◌then◌else◌, List, [], ◌∷◌, ◌++◌, length, Ok, Err, refl, ◌∙◌, ap, arith, nat_le, length-append, leb-true, le-leb}
use Rattle.campl_gram.specs.declared.fault.Fault.TheVariants.{Unexpected, TooDeep}
use Rattle.campl_gram.specs.Grammar.{Nested, bare, Shallow}
use Rattle.campl_gram.proofs.Only.{verdict}

-- what stands before the same rest is the same
pub cancel : {T : Type 0} (u v r : List T) → u ++ r ≡ v ++ r → u ≡ v
cancel [] [] r e = refl
cancel [] (y ∷ v) r e = absurd (omega (arith, ap length e, length-append v r))
cancel (x ∷ u) [] r e = absurd (omega (arith, ap length e, length-append u r))
cancel (x ∷ u) (y ∷ v) r e = let tails : u ++ r ≡ v ++ r = cc in let heads : x ≡ y = cc in ap (λ l. x ∷ l) (cancel u v r tails) ∙ ap (λ z. z ∷ v) heads

-- as many tokens as there are with their nesting
pub length-bare : {T : Type 0} (w : List (Nested T)) → length (bare w) ≡ length w
length-bare [] = refl
length-bare (p ∷ w) = ap suc (length-bare w)

module _ {T : Type 0} (limit : ℕ) where
  -- no verdict is Unexpected
  pub never-unexpected : {A : Type 0} (w : List (Nested T)) (x : A) (rest r : List T) → verdict limit w x rest ≡ (Err Unexpected, r) → ⊥
  never-unexpected [] x rest r e = let h = ap (λ o. o.0) e in cc
  never-unexpected (p ∷ w) x rest r e = by (nat_le p.1 limit) (never-unexpected w x rest r) e
    where
      by : (c : Bool) → (verdict limit w x rest ≡ (Err Unexpected, r) → ⊥) → (if c then verdict limit w x rest else (Err TooDeep, p.0 ∷ (bare w ++ rest))) ≡ (Err Unexpected, r) → ⊥
      by true f e = f e
      by false f e = let h = ap (λ o. o.0) e in cc

  -- a value leaves what follows
  pub verdict-rest : {A : Type 0} (w : List (Nested T)) (x : A) (rest : List T) (y : A) (r : List T) → verdict limit w x rest ≡ (Ok y, r) → rest ≡ r
  verdict-rest [] x rest y r e = ap (λ o. o.1) e
  verdict-rest (p ∷ w) x rest y r e = by (nat_le p.1 limit) (verdict-rest w x rest y r) e
    where
      by : (c : Bool) → (verdict limit w x rest ≡ (Ok y, r) → rest ≡ r) → (if c then verdict limit w x rest else (Err TooDeep, p.0 ∷ (bare w ++ rest))) ≡ (Ok y, r) → rest ≡ r
      by true f e = f e
      by false f e = let h = ap (λ o. o.0) e in cc

  -- the value of a verdict is the one that it was given
  pub verdict-value : {A : Type 0} (w : List (Nested T)) (x : A) (rest : List T) (y : A) (r : List T) → verdict limit w x rest ≡ (Ok y, r) → x ≡ y
  verdict-value [] x rest y r e = let h : Ok x ≡ Ok y = ap (λ o. o.0) e in cc
  verdict-value (p ∷ w) x rest y r e = by (nat_le p.1 limit) (verdict-value w x rest y r) e
    where
      by : (c : Bool) → (verdict limit w x rest ≡ (Ok y, r) → x ≡ y) → (if c then verdict limit w x rest else (Err TooDeep, p.0 ∷ (bare w ++ rest))) ≡ (Ok y, r) → x ≡ y
      by true f e = f e
      by false f e = let h = ap (λ o. o.0) e in cc

  -- no more is left than there is
  verdict-left : {A : Type 0} (w : List (Nested T)) (x : A) (rest : List T) → length (verdict limit w x rest).1 ≤ length w + length rest
  verdict-left [] x rest = omega arith
  verdict-left (p ∷ w) x rest = by (nat_le p.1 limit) (verdict-left w x rest)
    where
      by : (c : Bool) → length (verdict limit w x rest).1 ≤ length w + length rest
          → length (if c then verdict limit w x rest else (Err TooDeep, p.0 ∷ (bare w ++ rest))).1 ≤ length (p ∷ w) + length rest
      by true h = omega arith
      by false h = omega (arith, length-append (bare w) rest, length-bare w)

  -- where the verdict is that a token is too deep, it is the first such token
  pub deep-at : {A : Type 0} (w : List (Nested T)) (p : Nested T) (more : List (Nested T)) (x : A) → verdict limit (w ++ p ∷ more) x [] ≡ (Err TooDeep, p.0 ∷ bare more)
      → Shallow limit w × (nat_le p.1 limit ≡ false)
  deep-at [] p more x e = by (nat_le p.1 limit) refl e
    where
      by : (c : Bool) → nat_le p.1 limit ≡ c → (if c then verdict limit more x [] else (Err TooDeep, p.0 ∷ (bare more ++ []))) ≡ (Err TooDeep, p.0 ∷ bare more) → Unit {0} × (nat_le p.1 limit ≡ false)
      by true is e = absurd (omega (arith, verdict-left more x [], ap (λ o. length o.1) e, length-bare more))
      by false is e = (tt, is)
  deep-at (q ∷ w) p more x e = by (nat_le q.1 limit) refl e (deep-at w p more x)
    where
      by : (c : Bool) → nat_le q.1 limit ≡ c → (if c then verdict limit (w ++ p ∷ more) x [] else (Err TooDeep, q.0 ∷ (bare (w ++ p ∷ more) ++ []))) ≡ (Err TooDeep, p.0 ∷ bare more)
          → (verdict limit (w ++ p ∷ more) x [] ≡ (Err TooDeep, p.0 ∷ bare more) → Shallow limit w × (nat_le p.1 limit ≡ false))
          → ((nat_le q.1 limit ≡ true) × Shallow limit w) × (nat_le p.1 limit ≡ false)
      by true is e k = let h = k e in ((is, h.0), h.1)
      by false is e k = absurd (omega (arith, ap (λ o. length o.1) e, length-append (bare (w ++ p ∷ more)) [], length-bare (w ++ p ∷ more), length-append w (p ∷ more), length-bare more))

  -- within the limit the verdict is the value
  pub verdict-shallow : {A : Type 0} (w : List (Nested T)) (x : A) (rest : List T) → Shallow limit w → verdict limit w x rest ≡ (Ok x, rest)
  verdict-shallow [] x rest z = refl
  verdict-shallow (p ∷ w) x rest z = ap (λ c. if c then verdict limit w x rest else (Err TooDeep, p.0 ∷ (bare w ++ rest))) z.0 ∙ verdict-shallow w x rest z.1

-- a limit within which the tokens are
abbrev pub deepest : {T : Type 0} → List (Nested T) → ℕ
deepest [] = 0
deepest (p ∷ w) = p.1 + deepest w

-- what is within a limit is within a greater one
shallow-more : {T : Type 0} (w : List (Nested T)) (m n : ℕ) → n ≤ m → Shallow n w → Shallow m w
shallow-more [] m n h z = tt
shallow-more (p ∷ w) m n h z = (le-leb p.1 m (let k : p.1 ≤ n = leb-true p.1 n z.0 in omega arith), shallow-more w m n h z.1)

-- tokens are within it
pub shallow-deepest : {T : Type 0} (w : List (Nested T)) → Shallow (deepest w) w
shallow-deepest [] = tt
shallow-deepest (p ∷ w) = (le-leb p.1 (p.1 + deepest w) (omega arith), shallow-more w (p.1 + deepest w) (deepest w) (omega arith) (shallow-deepest w))
