-- Lists of kinds of token, and what they say of tokens.
use Rattle.std.proofs.Common.{◌≡◌, Bool, true, false, not, ◌&&◌, ◌||◌, List, [], ◌∷◌, ◌++◌, refl, sym, ◌∙◌, inl, inr, ◌⊎◌, true≢false}
use Rattle.campl_gram.specs.Grammar.{Terminals}
use Rattle.campl_gram.specs.Reading.{is_any, next_in}
use Rattle.campl_gram.specs.Tests.{Distinct, among, disjoint, within}

-- ---- tests

-- a disjunction with false
or-false : (b : Bool) → (b || false) ≡ b
or-false true = refl
or-false false = refl

-- a disjunction holds by its left
pub or-left : (a b : Bool) → a ≡ true → (a || b) ≡ true
or-left true b e = refl
or-left false b e = cc

-- a disjunction holds by its right
pub or-right : (a b : Bool) → b ≡ true → (a || b) ≡ true
or-right true b e = refl
or-right false b e = e

-- a disjunction holds by one of its sides
pub or-split : (a b : Bool) → (a || b) ≡ true → (a ≡ true) ⊎ (b ≡ true)
or-split true b e = inl refl
or-split false b e = inr e

-- a conjunction gives its left
pub and-left : (a b : Bool) → (a && b) ≡ true → a ≡ true
and-left true b e = refl
and-left false b e = cc

-- a conjunction gives its right
pub and-right : (a b : Bool) → (a && b) ≡ true → b ≡ true
and-right true b e = e
and-right false b e = cc

-- a conjunction holds by both its sides
pub and-both : (a b : Bool) → a ≡ true → b ≡ true → (a && b) ≡ true
and-both true b e f = f
and-both false b e f = e

-- what isn't true is false
pub not-true : (b : Bool) → not b ≡ true → b ≡ false
not-true true e = sym e
not-true false e = refl

-- what can't be true is false
pub never-true : (b : Bool) → (b ≡ true → ⊥) → b ≡ false
never-true true h = absurd (h refl)
never-true false h = refl

-- ---- kinds and tokens

module _ {T K P : Type 0} (s : Terminals T K P) where
  -- a token is of one of the kinds where it is of the first or one of the others
  pub is_any-cons : (k : K) (ks : List K) (t : T) → is_any s (k ∷ ks) t ≡ (s.fits k t || is_any s ks t)
  is_any-cons k [] t = sym (or-false (s.fits k t))
  is_any-cons k (j ∷ ks) t = refl

  -- it is one of the kinds if it is one of the first of them
  pub is_any-front : (xs ys : List K) (t : T) → is_any s xs t ≡ true → is_any s (xs ++ ys) t ≡ true
  is_any-front [] ys t e = cc
  is_any-front (x ∷ xs) ys t e =
      is_any-cons x (xs ++ ys) t ∙ elim (or-split (s.fits x t) (is_any s xs t) (sym (is_any-cons x xs t) ∙ e)) [
        | inl h ↦ or-left (s.fits x t) (is_any s (xs ++ ys) t) h
        | inr h ↦ or-right (s.fits x t) (is_any s (xs ++ ys) t) (is_any-front xs ys t h)
      ]

  -- it is one of the kinds if it is one of the last of them
  pub is_any-back : (xs ys : List K) (t : T) → is_any s ys t ≡ true → is_any s (xs ++ ys) t ≡ true
  is_any-back [] ys t e = e
  is_any-back (x ∷ xs) ys t e = is_any-cons x (xs ++ ys) t ∙ or-right (s.fits x t) (is_any s (xs ++ ys) t) (is_any-back xs ys t e)

  module _ (same : K → K → Bool) (laws : Distinct s same) where
    -- a token of a kind that is among the kinds is of one of them
    pub is_any-among : (k : K) (ys : List K) (t : T) → among same k ys ≡ true → s.fits k t ≡ true → is_any s ys t ≡ true
    is_any-among k [] t e f = e
    is_any-among k (y ∷ ys) t e f =
        is_any-cons y ys t ∙ elim (or-split (same k y) (among same k ys) e) [
          | inl h ↦ or-left (s.fits y t) (is_any s ys t) (laws.alike k y t h f)
          | inr h ↦ or-right (s.fits y t) (is_any s ys t) (is_any-among k ys t h f)
        ]

    -- a disjunction is false if both sides are
    or-none : (a b : Bool) → a ≡ false → b ≡ false → (a || b) ≡ false
    or-none true b e f = e
    or-none false b e f = f

    -- then its left is
    or-left-none : (a b : Bool) → (a || b) ≡ false → a ≡ false
    or-left-none true b e = e
    or-left-none false b e = refl

    -- and its right is
    or-right-none : (a b : Bool) → (a || b) ≡ false → b ≡ false
    or-right-none true b e = cc
    or-right-none false b e = e

    -- a token of a kind that isn't among the kinds is of none of them
    pub is_any-not : (k : K) (ys : List K) (t : T) → among same k ys ≡ false → s.fits k t ≡ true → is_any s ys t ≡ false
    is_any-not k [] t e f = refl
    is_any-not k (y ∷ ys) t e f =
        is_any-cons y ys t ∙ or-none (s.fits y t) (is_any s ys t) (laws.apart k y t (or-left-none (same k y) (among same k ys) e) f)
        (is_any-not k ys t (or-right-none (same k y) (among same k ys) e) f)

    -- a token of the first kinds is of none of the second, where they have none in common
    pub apart : (xs ys : List K) (t : T) → disjoint same xs ys ≡ true → is_any s xs t ≡ true → is_any s ys t ≡ false
    apart [] ys t d e = cc
    apart (x ∷ xs) ys t d e = elim (or-split (s.fits x t) (is_any s xs t) (sym (is_any-cons x xs t) ∙ e)) [
      | inl h ↦ is_any-not x ys t (not-true (among same x ys) (and-left (not (among same x ys)) (disjoint same xs ys) d)) h
      | inr h ↦ apart xs ys t (and-right (not (among same x ys)) (disjoint same xs ys) d) h
    ]

    -- a token of the first kinds is of the second, where they are all among these
    pub inside : (xs ys : List K) (t : T) → within same xs ys ≡ true → is_any s xs t ≡ true → is_any s ys t ≡ true
    inside [] ys t d e = cc
    inside (x ∷ xs) ys t d e = elim (or-split (s.fits x t) (is_any s xs t) (sym (is_any-cons x xs t) ∙ e)) [
      | inl h ↦ is_any-among x ys t (and-left (among same x ys) (within same xs ys) d) h
      | inr h ↦ inside xs ys t (and-right (among same x ys) (within same xs ys) d) h
    ]

    -- the next token is of none of the first kinds, where it is of none of the second and those are among these
    pub next-within : (xs ys : List K) (ts : List T) → within same xs ys ≡ true → next_in s ys ts ≡ false → next_in s xs ts ≡ false
    next-within xs ys [] d e = refl
    next-within xs ys (t ∷ ts) d e = never-true (is_any s xs t) (λ h. true≢false (sym (inside xs ys t d h) ∙ e))

  -- the next token is of none of the first of the kinds, where it is of none of them
  pub next-front : (xs ys : List K) (ts : List T) → next_in s (xs ++ ys) ts ≡ false → next_in s xs ts ≡ false
  next-front xs ys [] e = refl
  next-front xs ys (t ∷ ts) e = never-true (is_any s xs t) (λ h. true≢false (sym (is_any-front xs ys t h) ∙ e))

  -- and none of the last
  pub next-back : (xs ys : List K) (ts : List T) → next_in s (xs ++ ys) ts ≡ false → next_in s ys ts ≡ false
  next-back xs ys [] e = refl
  next-back xs ys (t ∷ ts) e = never-true (is_any s ys t) (λ h. true≢false (sym (is_any-back xs ys t h) ∙ e))
