-- The new neighbours of a part, found in order of their number.
use Rattle.std.proofs.Common.{◌≡◌, ℕ, zero, suc, ◌+◌, ◌<◌, ◌⊎◌, inl, inr, Bool, true, false, eqb, ◌&&◌, not, ◌↔◌, IsTrue, get_or, List, [], ◌∷◌, ◌++◌, Some, length, sym, ap, subst, ◌∙◌, arith}
use Rattle.std.proofs.lemmas.Bool.{eqb-true, eq-eqb, cases_Bool, cases_eq}
use Rattle.std.specs.List.{slice_get, list_any}
use Rattle.campl_plug.specs.declared.plug.Link.{Link}
use Rattle.campl_plug.specs.Links.{IsPart, Linked}
use Rattle.campl_plug.specs.Search.{AreNewNeighbours}
use Rattle.campl_plug.proofs.Places.{get-front, get-back, get-split}

-- of the new neighbours those below a bound are found
pub record FoundBelow (k : ℕ) (links : List Link) (order : List ℕ) (p bound : ℕ) (found : List ℕ) : Type 0 where
  pub rising : (i j q r : ℕ) → i < j → slice_get found i ≡ Some q → slice_get found j ≡ Some r → q < r
  pub parts_alone : (i q : ℕ) → slice_get found i ≡ Some q → IsPart k q
  pub below : (i q : ℕ) → slice_get found i ≡ Some q → q < bound
  pub linked : (i q : ℕ) → slice_get found i ≡ Some q → Linked links p q
  pub unseen : (i j q : ℕ) → slice_get found i ≡ Some q → slice_get order j ≡ Some q → ⊥
  pub each : (q : ℕ) → IsPart k q → q < bound → Linked links p q → ((i : ℕ) × (slice_get order i ≡ Some q)) ⊎ ((i : ℕ) × (slice_get found i ≡ Some q))

pub found-none : (k : ℕ) (links : List Link) (order : List ℕ) (p : ℕ) → FoundBelow k links order p 1 []
found-none k links order p = record {
  rising = λ i j q r h e f. absurd (let z : ⊥ = cc in z);
  parts_alone = λ i q e. absurd (let z : ⊥ = cc in z);
  below = λ i q e. absurd (let z : ⊥ = cc in z);
  linked = λ i q e. absurd (let z : ⊥ = cc in z);
  unseen = λ i j q e f. let z : ⊥ = cc in z;
  each = λ q part h l. absurd (omega (arith, part.low, h));
}

pub found-all : (k : ℕ) (links : List Link) (order : List ℕ) (p bound : ℕ) (found : List ℕ) → k < bound → FoundBelow k links order p bound found → AreNewNeighbours k links order p found
found-all k links order p bound found past f = record {
  rising = f.rising;
  parts_alone = f.parts_alone;
  linked = f.linked;
  unseen = f.unseen;
  each = λ q part l. f.each q part (omega (arith, part.high, past)) l;
}

-- what a search of the list says
pub any-there : (xs : List ℕ) (q : ℕ) → list_any (λ x. eqb x q) xs ≡ true → (i : ℕ) × (slice_get xs i ≡ Some q)
any-there [] q e = absurd (let z : ⊥ = cc in z)
any-there (x ∷ xs) q e = elim (cases_Bool (eqb x q)) [
  | inl i ↦ (zero, ap Some (eqb-true x q i))
  | inr i ↦ let (j, f) = any-there xs q (rw i at e) in (suc j, f)
]

pub any-nowhere : (xs : List ℕ) (q i : ℕ) → list_any (λ x. eqb x q) xs ≡ false → slice_get xs i ≡ Some q → ⊥
any-nowhere [] q i e f = let z : ⊥ = cc in z
any-nowhere (x ∷ xs) q zero e f =
    let s : x ≡ q = cc in
    let g : true ≡ false = rw (eq-eqb x q s) at e in
    let z : ⊥ = cc in z
any-nowhere (x ∷ xs) q (suc i) e f = elim (cases_Bool (eqb x q)) [
  | inl h ↦ (let g : true ≡ false = rw h at e in let z : ⊥ = cc in z)
  | inr h ↦ any-nowhere xs q i (rw h at e) f
]

module _ (k : ℕ) (links : List Link) (order : List ℕ) (p bound : ℕ) (found : List ℕ) (f : FoundBelow k links order p bound found) where
  -- a candidate that is no new neighbour
  pub found-same : (Linked links p bound → (i : ℕ) × (slice_get order i ≡ Some bound)) → FoundBelow k links order p (bound + 1) found
  found-same other = record {
    rising = f.rising;
    parts_alone = f.parts_alone;
    below = λ i q e. let h : q < bound = f.below i q e in omega (arith, h);
    linked = f.linked;
    unseen = f.unseen;
    each = λ q part h l. elim (cases_eq q bound) [
      | inl s ↦ let (i, e) = other (subst (Linked links p) s l) in inl (i, e ∙ ap Some (sym s))
      | inr s ↦ f.each q part (omega (arith, h, s)) l
    ];
  }

  -- and one that is
  pub found-more : IsPart k bound → Linked links p bound → ((i : ℕ) → slice_get order i ≡ Some bound → ⊥) → FoundBelow k links order p (bound + 1) (found ++ bound ∷ [])
  found-more part link fresh = record {
    rising = λ i j q r h a b. elim (cases j r b) [
      | inl y ↦ elim (cases i q a) [
        | inl x ↦ f.rising i j q r h x.1 y.1
        | inr x ↦ absurd (omega (arith, x.0, y.0, h))
      ]
      | inr y ↦ elim (cases i q a) [
        | inl x ↦ let t : q < bound = f.below i q x.1 in omega (arith, t, y.1)
        | inr x ↦ absurd (omega (arith, x.0, y.0, h))
      ]
    ];
    parts_alone = λ i q e. elim (cases i q e) [ inl x ↦ f.parts_alone i q x.1 | inr x ↦ subst (IsPart k) x.1 part ];
    below = λ i q e. elim (cases i q e) [ inl x ↦ (let h : q < bound = f.below i q x.1 in omega (arith, h)) | inr x ↦ omega (arith, x.1) ];
    linked = λ i q e. elim (cases i q e) [ inl x ↦ f.linked i q x.1 | inr x ↦ subst (Linked links p) x.1 link ];
    unseen = λ i j q e g. elim (cases i q e) [ inl x ↦ f.unseen i j q x.1 g | inr x ↦ fresh j (g ∙ ap Some (sym x.1)) ];
    each = λ q here h l. elim (cases_eq q bound) [
      | inl s ↦ inr (length found, get-back found (bound ∷ []) (length found) 0 q (omega arith) (ap Some (sym s)))
      | inr s ↦ elim (f.each q here (omega (arith, h, s)) l) [
        | inl x ↦ inl x
        | inr x ↦ inr (x.0, get-front found (bound ∷ []) x.0 q x.1)
      ]
    ];
  }
    where
      cases : (j q : ℕ) → slice_get (found ++ bound ∷ []) j ≡ Some q → ((j < length found) × (slice_get found j ≡ Some q)) ⊎ ((j ≡ length found) × (bound ≡ q))
      cases j q e = elim (get-split found (bound ∷ []) j q e) [
        | inl x ↦ inl x
        | inr x ↦ inr (last x.0 x.1 x.2)
      ]
        where
          last : (m : ℕ) → j ≡ length found + m → slice_get (bound ∷ []) m ≡ Some q → (j ≡ length found) × (bound ≡ q)
          last zero h g = (omega (arith, h), cc)
          last (suc m) h g = absurd (let z : ⊥ = cc in z)

-- what the test of a candidate says
module _ (k : ℕ) (links : List Link) (order : List ℕ) (p bound : ℕ) (found : List ℕ) (f : FoundBelow k links order p bound found)
    (marks : List Bool) (marked : (q : ℕ) → IsTrue (get_or marks q false) ↔ Linked links p q) where
  pub found-yes : IsPart k bound → (get_or marks bound false && not (list_any (λ x. eqb x bound) order)) ≡ true → FoundBelow k links order p (bound + 1) (found ++ bound ∷ [])
  found-yes part e = elim (cases_Bool (get_or marks bound false)) [
    | inl m ↦ elim (cases_Bool (list_any (λ x. eqb x bound) order)) [
      | inl a ↦ absurd (let g : false ≡ true = rw (m, a) at e in let z : ⊥ = cc in z)
      | inr a ↦ found-more k links order p bound found f part ((marked bound).0 m) (λ i. any-nowhere order bound i a)
    ]
    | inr m ↦ absurd (let g : false ≡ true = rw m at e in let z : ⊥ = cc in z)
  ]

  pub found-no : (get_or marks bound false && not (list_any (λ x. eqb x bound) order)) ≡ false → FoundBelow k links order p (bound + 1) found
  found-no e = elim (cases_Bool (get_or marks bound false)) [
    | inl m ↦ elim (cases_Bool (list_any (λ x. eqb x bound) order)) [
      | inl a ↦ found-same k links order p bound found f (λ l. any-there order bound a)
      | inr a ↦ absurd (let g : true ≡ false = rw (m, a) at e in let z : ⊥ = cc in z)
    ]
    | inr m ↦ found-same k links order p bound found f (λ l. absurd (let g : true ≡ false = sym ((marked bound).1 l) ∙ m in let z : ⊥ = cc in z))
  ]
