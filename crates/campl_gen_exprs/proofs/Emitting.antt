-- Code as it grows.
use Rattle.std.proofs.Common.{◌≡◌, refl, ap, ℕ, zero, suc, ◌≤◌, List, [], ◌∷◌, map, length, append_assoc, arith}
use Rattle.std.specs.Prelude.{slice_set}
use Rattle.std.proofs.lemmas.List.{length-map, map_push, append-nil}

pub map-set : {A B : Type 0} (f : A → B) (xs : List A) (n : ℕ) (x : A) → map f (slice_set xs n x) ≡ slice_set (map f xs) n (f x)
map-set f [] n x = refl
map-set f (y ∷ xs) zero x = refl
map-set f (y ∷ xs) (suc n) x = ap (λ (l : List _). f y ∷ l) (map-set f xs n x)

-- nothing stands there
pub set-beyond : {A : Type 0} (xs : List A) (n : ℕ) (x : A) → length xs ≤ n → slice_set xs n x ≡ xs
set-beyond [] n x l = refl
set-beyond (y ∷ xs) zero x l = absurd (let none : ⊥ = omega (arith, l) in none)
set-beyond (y ∷ xs) (suc n) x l = ap (λ (m : List _). y ∷ m) (set-beyond xs n x (omega (arith, l)))

pub ruleset views = (map-set, length-map, map_push, set-beyond, append-nil, append_assoc)

pub ruleset setting = (append_assoc)
