-- How long lists are.
use Rattle.std.proofs.Common.{◌≡◌, refl, ap, List, [], ◌∷◌, map, length}
use Rattle.std.specs.Prelude.{suc}

pub map-length : {A B : Type 0} (f : A → B) (xs : List A) → length (map f xs) ≡ length xs
map-length f [] = refl
map-length f (x ∷ xs) = ap suc (map-length f xs)

pub ruleset lengths = (map-length)
