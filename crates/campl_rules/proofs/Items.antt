-- Lists by their items.
use Rattle.std.proofs.Common.{◌≡◌, refl, ℕ, zero, suc, ◌<◌, List, [], ◌∷◌, length, drop, ap, sym, ◌∙◌, Option, Some, None, arith, replicate}
use Rattle.std.proofs.lemmas.List.{get_or-replicate, length-replicate}
use Rattle.std.proofs.lemmas.Option.{slice_get_read}
use Rattle.std.proofs.Math.Dec.{eqb-suc-zero, eqb-zero-suc, eqb-suc-suc}
use Rattle.std.specs.Prelude.{slice_get, slice_set, option_map, eqb, if◌then◌else◌}

pub same-items : {A : Type 0} (xs ys : List A) → ((i : ℕ) → slice_get xs i ≡ slice_get ys i) → xs ≡ ys
same-items [] [] h = refl
same-items {A} [] (y ∷ ys) h = let e : ◌≡◌ {A = Option A} None (Some y) = h zero in absurd cc
same-items {A} (x ∷ xs) [] h = let e : ◌≡◌ {A = Option A} (Some x) None = h zero in absurd cc
same-items {A} (x ∷ xs) (y ∷ ys) h =
    let e : ◌≡◌ {A = Option A} (Some x) (Some y) = h zero in
    let first : x ≡ y = cc in
    let rest : xs ≡ ys = same-items xs ys (λ i. h (suc i)) in
    ap (λ z. z ∷ xs) first ∙ ap (λ zs. y ∷ zs) rest

kept : {A : Type 0} (o : Option A) → o ≡ option_map (λ x. x) o
kept None = refl
kept (Some x) = refl

pub item-set : {A : Type 0} (xs : List A) (i j : ℕ) (v : A) → slice_get (slice_set xs i v) j ≡ option_map (λ x. if eqb j i then v else x) (slice_get xs j)
item-set [] i j v = refl
item-set (x ∷ xs) zero zero v = refl
item-set (x ∷ xs) zero (suc j) v = rw (eqb-suc-zero j) (kept (slice_get xs j))
item-set (x ∷ xs) (suc i) zero v = rw (eqb-zero-suc i) refl
item-set (x ∷ xs) (suc i) (suc j) v = rw (eqb-suc-suc j i) (item-set xs i j v)

pub drop-set : {A : Type 0} (xs : List A) (i : ℕ) (v : A) → i < length xs → drop i (slice_set xs i v) ≡ v ∷ drop (suc i) xs
drop-set [] i v h = absurd (omega (arith, h))
drop-set (x ∷ xs) zero v h = refl
drop-set (x ∷ xs) (suc i) v h = let k : i < length xs = omega (arith, h) in drop-set xs i v k

pub item-replicate : {A : Type 0} (n i : ℕ) (x : A) → i < n → slice_get (replicate n x) i ≡ Some x
item-replicate n i x h = slice_get_read (replicate n x) n i x (sym (length-replicate n x)) h (sym (get_or-replicate n i x x h))
