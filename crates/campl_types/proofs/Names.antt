-- The test of names decides whether they are the same.
use Rattle.std.proofs.Common.{◌≡◌, ◌∙◌, ◌⊎◌, inl, inr, refl, sym, ap, ℕ, Bool, true, false, ◌&&◌, ◌||◌, List, [], ◌∷◌, ◌++◌, eqb, eqb-true, eq-eqb, true≢false}
use Rattle.campl_types.specs.Names.{Name, same_name, is_among}
use Rattle.campl_types.proofs.Truth.{and-first, and-second}

first-same : (a b : ℕ) (c : Bool) → (eqb a b && c) ≡ true → a ≡ b
first-same a b c i = eqb-true a b (and-first (eqb a b) c i)

pub same-is : (x y : Name) → same_name x y ≡ true → x ≡ y
same-is [] [] i = refl
same-is [] (b ∷ y) i = absurd (true≢false (sym i))
same-is (a ∷ x) [] i = absurd (true≢false (sym i))
same-is (a ∷ x) (b ∷ y) i =
    let p : a ≡ b = first-same a b (same_name x y) i in
    let q : x ≡ y = same-is x y (and-second (eqb a b) (same_name x y) i) in
    cc (p, q)

pub same-itself : (x : Name) → same_name x x ≡ true
same-itself [] = refl
same-itself (a ∷ x) = rw (eq-eqb a a refl, same-itself x) refl

pub same-turned : (x y : Name) → same_name x y ≡ same_name y x
same-turned [] [] = refl
same-turned [] (b ∷ y) = refl
same-turned (a ∷ x) [] = refl
same-turned (a ∷ x) (b ∷ y) = let p : eqb a b ≡ eqb b a = turned a b in let q : same_name x y ≡ same_name y x = same-turned x y in rw (p, q) refl
  where
    turned : (m n : ℕ) → eqb m n ≡ eqb n m
    turned m n = go (eqb m n) (eqb n m) refl refl
      where
        go : (p q : Bool) → eqb m n ≡ p → eqb n m ≡ q → p ≡ q
        go true true i j = refl
        go false false i j = refl
        go true false i j = absurd (true≢false (sym (eq-eqb n m (sym (eqb-true m n i))) ∙ j))
        go false true i j = absurd (true≢false (sym (eq-eqb m n (sym (eqb-true n m j))) ∙ i))

pub or-assoc : (a b c : Bool) → (a || (b || c)) ≡ ((a || b) || c)
or-assoc true b c = refl
or-assoc false b c = refl

pub among-append : (x : Name) (xs ys : List Name) → is_among x (xs ++ ys) ≡ (is_among x xs || is_among x ys)
among-append x [] ys = refl
among-append x (y ∷ xs) ys = ap (λ b. same_name x y || b) (among-append x xs ys) ∙ or-assoc (same_name x y) (is_among x xs) (is_among x ys)

-- the same name, or different ones
pub split-names : (x y : Name) → (x ≡ y) ⊎ (same_name x y ≡ false)
split-names x y = go (same_name x y) refl
  where
    go : (b : Bool) → same_name x y ≡ b → (x ≡ y) ⊎ (same_name x y ≡ false)
    go true i = inl (same-is x y i)
    go false i = inr i
