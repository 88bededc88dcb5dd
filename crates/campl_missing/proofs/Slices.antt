-- Parts of slices.
use Rattle.std.proofs.Common.{◌≡◌, refl, sym, ap, ℕ, zero, suc, ◌-◌, ◌<◌, ◌≤◌, Bool, true, false, List, [], ◌∷◌, take, drop, length, get_or, arith}
use Rattle.std.specs.Prelude.{◌==◌}

pub not-empty : (b : Bool) (n : ℕ) → b ≡ false → b ≡ (n == 0) → 0 < n
not-empty b (suc n) i j = omega arith
not-empty true zero i j = absurd (cc i)
not-empty false zero i j = absurd (cc j)

take-all : {A : Type 0} → (xs : List A) → take (length xs) xs ≡ xs
take-all [] = refl
take-all (x ∷ xs) = ap (λ ys. x ∷ ys) (take-all xs)

pub take-rest : {A : Type 0} → (n : ℕ) (xs : List A) → take (length xs - n) (drop n xs) ≡ drop n xs
take-rest zero xs = let e : length xs - 0 ≡ length xs = omega arith in rw e (take-all xs)
take-rest (suc n) [] = let e : 0 - suc n ≡ 0 = omega arith in rw e refl
take-rest (suc n) (x ∷ xs) = let e : length (x ∷ xs) - suc n ≡ length xs - n = omega arith in rw e (take-rest n xs)

-- the first, and the rest
pub first-and-rest : {A : Type 0} → (xs : List A) (x : A) → 1 ≤ length xs → x ≡ get_or xs 0 x → xs ≡ x ∷ take (length xs - 1) (drop 1 xs)
first-and-rest [] x l e = absurd (omega (arith, l))
first-and-rest (y ∷ ys) x l e =
    let n : length (y ∷ ys) - 1 ≡ length ys = omega arith in
    rw (n, take-all ys) (ap (λ z. z ∷ ys) (sym e))
