-- Lists that are read by number, as functions that are changed at one number.
use Rattle.std.proofs.Common.{◌≡◌, ◌≢◌, ◌<◌, ℕ, zero, suc, List, [], ◌∷◌, ◌++◌, Option, Some, length, set, refl, ap, arith, slice_get}
use Rattle.std.proofs.Math.Path.{fun_ext}
use Rattle.campl_cells.specs.Parts.{put}
use Rattle.campl_cells.proofs.Puts.{put-both}

-- a function that has x at i and is f elsewhere
pub put-is : {A : Type 0} (i : ℕ) (x : A) (f g : ℕ → A) → g i ≡ x → ((k : ℕ) → i ≢ k → g k ≡ f k) → g ≡ put i x f
put-is {A} i x f g h e = fun_ext (λ k. put-both (λ z y. g z ≡ y) i x f k h (e k))

pub set-here : {A : Type 0} (xs : List A) (i : ℕ) (y : A) → i < length xs → slice_get (set xs i y) i ≡ Some y
set-here [] i y h = absurd (let z : ⊥ = omega arith in z)
set-here (x ∷ xs) zero y h = refl
set-here (x ∷ xs) (suc i) y h = set-here xs i y (omega arith)

pub set-else : {A : Type 0} (xs : List A) (i k : ℕ) (y : A) → i ≢ k → slice_get (set xs i y) k ≡ slice_get xs k
set-else [] i k y n = refl
set-else (x ∷ xs) zero zero y n = absurd (n refl)
set-else (x ∷ xs) zero (suc k) y n = refl
set-else (x ∷ xs) (suc i) zero y n = refl
set-else (x ∷ xs) (suc i) (suc k) y n = set-else xs i k y (λ e. n (ap suc e))

push-here : {A : Type 0} (xs : List A) (y : A) → slice_get (xs ++ y ∷ []) (length xs) ≡ Some y
push-here [] y = refl
push-here (x ∷ xs) y = push-here xs y

push-else : {A : Type 0} (xs : List A) (k : ℕ) (y : A) → length xs ≢ k → slice_get (xs ++ y ∷ []) k ≡ slice_get xs k
push-else [] zero y n = absurd (n refl)
push-else [] (suc k) y n = refl
push-else (x ∷ xs) zero y n = refl
push-else (x ∷ xs) (suc k) y n = push-else xs k y (λ e. n (ap suc e))

-- a list with one place set, as a function of the place
pub read_set : {A B : Type 0} (f : Option A → B) (xs : List A) (i : ℕ) (y : A) → i < length xs → (λ k. f (slice_get (set xs i y) k)) ≡ put i (f (Some y)) (λ k. f (slice_get xs k))
read_set f xs i y h = put-is i (f (Some y)) (λ k. f (slice_get xs k)) (λ k. f (slice_get (set xs i y) k)) (ap f (set-here xs i y h)) (λ k n. ap f (set-else xs i k y n))

-- a list with one more, as a function of the place
pub read_push : {A B : Type 0} (f : Option A → B) (xs : List A) (y : A) → (λ k. f (slice_get (xs ++ y ∷ []) k)) ≡ put (length xs) (f (Some y)) (λ k. f (slice_get xs k))
read_push f xs y = put-is (length xs) (f (Some y)) (λ k. f (slice_get xs k)) (λ k. f (slice_get (xs ++ y ∷ []) k)) (ap f (push-here xs y)) (λ k n. ap f (push-else xs k y n))

pub length-push : {A : Type 0} (xs : List A) (y : A) → length (xs ++ y ∷ []) ≡ suc (length xs)
length-push [] y = refl
length-push (x ∷ xs) y = ap suc (length-push xs y)
