-- Names among names.
use Rattle.std.proofs.Common.{◌≡◌, ◌∙◌, ◌⊎◌, inl, inr, refl, sym, subst, Bool, true, false, not, ◌||◌, List, [], ◌∷◌, ◌++◌, true≢false}
use Rattle.campl_types.specs.Names.{Name, same_name, is_among, all_among, are_distinct, without, once, Within}
use Rattle.campl_types.proofs.Names.{same-is, same-itself, split-names, among-append}
use Rattle.campl_types.proofs.Truth.{no-both, not-true, and-first, and-second, and-both, or-first, or-second, or-split, or-none, as-false}

-- Within

-- the same names, in any order and as often as they stand
abbrev pub SameNames : List Name → List Name → Type 0
SameNames ks bs = (x : Name) → is_among x ks ≡ is_among x bs

pub among-within : (ks bs : List Name) → all_among ks bs ≡ true → Within ks bs
among-within [] bs i x j = absurd (true≢false (sym j))
among-within (a ∷ ks) bs i x j = go (or-split (same_name x a) (is_among x ks) j) (among-within ks bs (and-second (is_among a bs) (all_among ks bs) i) x)
  where
    go : (same_name x a ≡ true) ⊎ (is_among x ks ≡ true) → (is_among x ks ≡ true → is_among x bs ≡ true) → is_among x bs ≡ true
    go (inl e) later = subst (λ y. is_among y bs ≡ true) (sym (same-is x a e)) (and-first (is_among a bs) (all_among ks bs) i)
    go (inr e) later = later e

pub within-among : (ks bs : List Name) → Within ks bs → all_among ks bs ≡ true
within-among [] bs i = refl
within-among (a ∷ ks) bs i =
    and-both (is_among a bs) (all_among ks bs) (i a (or-first (same_name a a) (is_among a ks) (same-itself a))) (within-among ks bs (λ x j. i x (or-second (same_name x a) (is_among x ks) j)))

pub within-left : (ks bs cs : List Name) → Within (ks ++ bs) cs → Within ks cs
within-left ks bs cs i x j = i x (among-append x ks bs ∙ or-first (is_among x ks) (is_among x bs) j)

pub within-right : (ks bs cs : List Name) → Within (ks ++ bs) cs → Within bs cs
within-right ks bs cs i x j = i x (among-append x ks bs ∙ or-second (is_among x ks) (is_among x bs) j)

pub within-both : (ks bs cs : List Name) → Within ks cs → Within bs cs → Within (ks ++ bs) cs
within-both ks bs cs i j x k = go (or-split (is_among x ks) (is_among x bs) (sym (among-append x ks bs) ∙ k))
  where
    go : (is_among x ks ≡ true) ⊎ (is_among x bs ≡ true) → is_among x cs ≡ true
    go (inl e) = i x e
    go (inr e) = j x e

pub among-same : (ks bs cs : List Name) → SameNames bs cs → all_among ks bs ≡ all_among ks cs
among-same [] bs cs i = refl
among-same (a ∷ ks) bs cs i = let p : is_among a bs ≡ is_among a cs = i a in let q : all_among ks bs ≡ all_among ks cs = among-same ks bs cs i in rw (p, q) refl

-- each name stands among the names that stand once
kept : (x y : Name) (xs : List Name) → same_name x y ≡ false → is_among x xs ≡ true → is_among x (without y xs) ≡ true
kept x y [] i j = j
kept x y (z ∷ xs) i j = go (split-names y z) (kept x y xs i)
  where
    go : (y ≡ z) ⊎ (same_name y z ≡ false) → (is_among x xs ≡ true → is_among x (without y xs) ≡ true) → is_among x (without y (z ∷ xs)) ≡ true
    go (inl e) later =
        let s : same_name y z ≡ true = subst (λ k. same_name y k ≡ true) e (same-itself y) in
        let d : same_name x z ≡ false = subst (λ k. same_name x k ≡ false) e i in
        rw s (later (rw d at j))
    go (inr e) later = rw e (by (or-split (same_name x z) (is_among x xs) j))
      where
        by : (same_name x z ≡ true) ⊎ (is_among x xs ≡ true) → (same_name x z || is_among x (without y xs)) ≡ true
        by (inl k) = or-first (same_name x z) (is_among x (without y xs)) k
        by (inr k) = or-second (same_name x z) (is_among x (without y xs)) (later k)

pub within-once : (xs : List Name) → Within xs (once xs)
within-once [] x i = i
within-once (y ∷ ys) x i = go (split-names x y) (within-once ys x)
  where
    go : (x ≡ y) ⊎ (same_name x y ≡ false) → (is_among x ys ≡ true → is_among x (once ys) ≡ true) → is_among x (once (y ∷ ys)) ≡ true
    go (inl e) later = or-first (same_name x y) _ (subst (λ k. same_name x k ≡ true) e (same-itself x))
    go (inr e) later = or-second (same_name x y) _ (kept x y (once ys) e (later (rw e at i)))

-- Distinct names

-- none of these names is among those
abbrev pub Apart : List Name → List Name → Type 0
Apart ks bs = (x : Name) → is_among x ks ≡ true → is_among x bs ≡ false

pub distinct-append : (ks bs : List Name) → are_distinct ks ≡ true → are_distinct bs ≡ true → Apart bs ks → are_distinct (ks ++ bs) ≡ true
distinct-append [] bs i j apart = j
distinct-append (a ∷ ks) bs i j apart =
    and-both (not (is_among a (ks ++ bs))) (are_distinct (ks ++ bs)) (rw (among-append a ks bs, go (is_among a ks) refl, other) refl)
    (distinct-append ks bs (and-second (not (is_among a ks)) (are_distinct ks) i) j (λ x k. not-later x (apart x k)))
  where
    go : (b : Bool) → is_among a ks ≡ b → is_among a ks ≡ false
    go true e = absurd (true≢false (sym (and-first false (are_distinct ks) (rw e at i))))
    go false e = e

    not-later : (x : Name) → (same_name x a || is_among x ks) ≡ false → is_among x ks ≡ false
    not-later x k = as-false (is_among x ks) (λ e. true≢false (sym (or-second (same_name x a) (is_among x ks) e) ∙ k))

    other : is_among a bs ≡ false
    other = as-false (is_among a bs) (λ e. true≢false (sym (or-first (same_name a a) (is_among a ks) (same-itself a)) ∙ apart a e))

-- names of which none stands twice, and none stands among those before
pub record DistinctFrom (before names : List Name) : Type 0 where
  pub distinct : are_distinct names ≡ true
  pub apart : Apart names before

pub none-distinct : (before : List Name) → DistinctFrom before []
none-distinct before = record { distinct = refl; apart = λ y i. absurd (true≢false (sym i)) }

pub from-nothing : (names : List Name) → are_distinct names ≡ true → DistinctFrom [] names
from-nothing names i = record { distinct = i; apart = λ y j. refl }

pub distinct-more : (before names : List Name) (x : Name) → is_among x before ≡ false → DistinctFrom (x ∷ before) names → DistinctFrom before (x ∷ names)
distinct-more before names x i d = record {
  distinct = and-both (not (is_among x names)) (are_distinct names) (rw fresh refl) d.distinct;
  apart = λ y j. go y (or-split (same_name y x) (is_among y names) j);
}
  where
    fresh : is_among x names ≡ false
    fresh = as-false (is_among x names) (λ j. no-both (same_name x x) (same-itself x) (or-none (same_name x x) (is_among x before) (d.apart x j)).0)

    go : (y : Name) → (same_name y x ≡ true) ⊎ (is_among y names ≡ true) → is_among y before ≡ false
    go y (inl s) = subst (λ z. is_among z before ≡ false) (sym (same-is y x s)) i
    go y (inr s) = (or-none (same_name y x) (is_among y before) (d.apart y s)).1

pub distinct-first : (before names : List Name) (x : Name) → DistinctFrom before (x ∷ names) → is_among x before ≡ false
distinct-first before names x d = d.apart x (or-first (same_name x x) (is_among x names) (same-itself x))

pub distinct-rest : (before names : List Name) (x : Name) → DistinctFrom before (x ∷ names) → DistinctFrom (x ∷ before) names
distinct-rest before names x d = record {
  distinct = and-second (not (is_among x names)) (are_distinct names) d.distinct;
  apart = λ y j. go y j (same_name y x) refl;
}
  where
    go : (y : Name) → is_among y names ≡ true → (b : Bool) → same_name y x ≡ b → (b || is_among y before) ≡ false
    go y j true s = absurd (no-both (is_among x names) (subst (λ z. is_among z names ≡ true) (same-is y x s) j) (not-true (is_among x names) (and-first (not (is_among x names)) (are_distinct names) d.distinct)))
    go y j false s = d.apart y (or-second (same_name y x) (is_among y names) j)
