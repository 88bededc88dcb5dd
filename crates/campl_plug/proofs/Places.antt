-- Places in lists.
use Rattle.std.proofs.Common.{◌≡◌, ℕ, zero, suc, ◌+◌, ◌<◌, ◌⊎◌, inl, inr, List, [], ◌∷◌, ◌++◌, Some, None, length, take, refl, ap, arith}
use Rattle.std.specs.List.{slice_get}

pub get-front : {X : Type 0} (xs ys : List X) (i : ℕ) (x : X) → slice_get xs i ≡ Some x → slice_get (xs ++ ys) i ≡ Some x
get-front [] ys i x e = absurd (let h : ⊥ = cc in h)
get-front (y ∷ xs) ys zero x e = e
get-front (y ∷ xs) ys (suc i) x e = get-front xs ys i x e

pub get-back : {X : Type 0} (xs ys : List X) (i m : ℕ) (x : X) → i ≡ length xs + m → slice_get ys m ≡ Some x → slice_get (xs ++ ys) i ≡ Some x
get-back [] ys i m x h e = let q : i ≡ m = omega (arith, h) in rw q e
get-back (y ∷ xs) ys zero m x h e = absurd (omega (arith, h))
get-back (y ∷ xs) ys (suc i) m x h e = get-back xs ys i m x (omega (arith, h)) e

-- what stands in xs ++ ys stands in one of both
pub get-split : {X : Type 0} (xs ys : List X) (i : ℕ) (x : X) → slice_get (xs ++ ys) i ≡ Some x → ((i < length xs) × (slice_get xs i ≡ Some x)) ⊎ ((m : ℕ) × (i ≡ length xs + m) × (slice_get ys m ≡ Some x))
get-split [] ys i x e = inr (i, omega arith, e)
get-split (y ∷ xs) ys zero x e = inl (omega arith, e)
get-split (y ∷ xs) ys (suc i) x e = elim (get-split xs ys i x e) [
  | inl h ↦ inl (omega (arith, h.0), h.1)
  | inr h ↦ inr (h.0, omega (arith, h.1), h.2)
]

pub get-there : {X : Type 0} (xs : List X) (i : ℕ) → i < length xs → (x : X) × (slice_get xs i ≡ Some x)
get-there [] i h = absurd (omega (arith, h))
get-there (x ∷ xs) zero h = (x, refl)
get-there (x ∷ xs) (suc i) h = get-there xs i (omega (arith, h))

-- the front of a list, once what follows it is cut off
pub seam : {X : Type 0} (n : ℕ) (xs ys : List X) → n ≡ length xs → take n (xs ++ ys) ≡ xs
seam n [] ys e = rw e refl
seam zero (x ∷ xs) ys e = absurd (omega (arith, e))
seam (suc n) (x ∷ xs) ys e = ap (λ zs. x ∷ zs) (seam n xs ys (omega (arith, e)))

pub get-one : {X : Type 0} (xs : List X) (i : ℕ) (x y : X) → slice_get xs i ≡ Some x → slice_get xs i ≡ Some y → x ≡ y
get-one xs i x y e f = cc

-- at a place of xs, or past its end
pub get-cases : {X : Type 0} (xs : List X) (i : ℕ) → ((x : X) × (slice_get xs i ≡ Some x)) ⊎ (slice_get xs i ≡ None)
get-cases [] i = inr refl
get-cases (x ∷ xs) zero = inl (x, refl)
get-cases (x ∷ xs) (suc i) = get-cases xs i

pub take-one-more : {X : Type 0} (xs : List X) (i : ℕ) (x : X) → slice_get xs i ≡ Some x → take (suc i) xs ≡ take i xs ++ x ∷ []
take-one-more [] i x e = absurd (let h : ⊥ = cc in h)
take-one-more (y ∷ xs) zero x e = let h : y ≡ x = cc in ap (λ z. z ∷ []) h
take-one-more (y ∷ xs) (suc i) x e = ap (λ ys. y ∷ ys) (take-one-more xs i x e)

-- lists with the same places are one
pub same-places : {X : Type 0} (xs ys : List X) → ((i : ℕ) → slice_get xs i ≡ slice_get ys i) → xs ≡ ys
same-places [] [] h = refl
same-places [] (y ∷ ys) h = absurd (let e : None ≡ Some y = h 0 in let no : ⊥ = cc in no)
same-places (x ∷ xs) [] h = absurd (let e : Some x ≡ None = h 0 in let no : ⊥ = cc in no)
same-places (x ∷ xs) (y ∷ ys) h =
    let e : Some x ≡ Some y = h 0 in
    let q : x ≡ y = cc in
    let r : xs ≡ ys = same-places xs ys (λ i. h (suc i)) in
    cc
