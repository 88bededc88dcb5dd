-- The top of operands.
use Rattle.std.proofs.Common.{◌≡◌, ℕ, zero, suc, ◌-◌, ◌<◌, ◌≤◌, List, [], ◌∷◌, ◌++◌, length, reverse, take, drop, Some, None, sym, ap, ◌∙◌, refl, arith, length-drop}
use Rattle.std.proofs.lemmas.List.{reverse-append, take-append-drop, length-reverse, take_at, drop_at, reverse-reverse, append_assoc, append-nil}
use Rattle.campl_value.specs.Tree.{Tree}
use Rattle.campl_code.specs.Machine.{popped}

-- from a vector cut at a place, seen from the top
pub cut : {A : Type 0} (xs old taken rest : List A) (n p : ℕ) → n ≤ length old → p ≡ length old - n → reverse xs ≡ old → taken ≡ drop p xs → rest ≡ take p xs → (length taken ≡ n) × (old ≡ reverse taken ++ reverse rest)
cut xs old taken rest n p le e r t s =
    let long : length xs ≡ length old = sym (length-reverse xs) ∙ ap length r in
    let left : length taken ≡ length xs - p = ap length t ∙ length-drop p xs in
    (omega arith, sym r ∙ ap reverse (sym (take-append-drop p xs)) ∙ reverse-append (take p xs) (drop p xs) ∙ simp (t, s))

pub parts : {A : Type 0} (old taken rest : List A) (n : ℕ) → (length taken ≡ n) × (old ≡ reverse taken ++ rest) → (taken ≡ reverse (take n old)) × (rest ≡ drop n old)
parts old taken rest n h =
    let e : length (reverse taken) ≡ n = length-reverse taken ∙ h.0 in (
      sym (reverse-reverse taken) ∙ ap reverse (sym (take_at (reverse taken) rest n e)) ∙ simp h.1,
      sym (drop_at (reverse taken) rest n e) ∙ simp h.1,
    )

reverse-onto : {A : Type 0} (x : A) (xs ys : List A) → reverse (x ∷ xs) ++ ys ≡ reverse xs ++ x ∷ ys
reverse-onto x xs ys = ap (λ l. l ++ ys) (reverse-append (x ∷ []) xs) ∙ append_assoc (reverse xs) (x ∷ []) ys

popped-onto : (n : ℕ) (vs st : List Tree) → n ≤ length st → popped n vs st ≡ Some (reverse (take n st) ++ vs, drop n st)
popped-onto zero vs st h = refl
popped-onto (suc n) vs [] h = absurd (omega (arith, h))
popped-onto (suc n) vs (v ∷ st) h =
    let k : n ≤ length st = omega (arith, h) in
    popped-onto n (v ∷ vs) st k ∙ ap (λ l. Some (l, drop n st)) (sym (reverse-onto v (take n st) vs))

pub popped-is : (n : ℕ) (st : List Tree) → n ≤ length st → popped n [] st ≡ Some (reverse (take n st), drop n st)
popped-is n st h = popped-onto n [] st h ∙ ap (λ l. Some (l, drop n st)) (append-nil (reverse (take n st)))

popped-few : (n : ℕ) (vs st : List Tree) → length st < n → popped n vs st ≡ None
popped-few zero vs st h = absurd (omega (arith, h))
popped-few (suc n) vs [] h = refl
popped-few (suc n) vs (v ∷ st) h = let k : length st < n = omega (arith, h) in popped-few n (v ∷ vs) st k

pub popped-short : (n : ℕ) (st : List Tree) → length st < n → popped n [] st ≡ None
popped-short n st h = popped-few n [] st h

pub top-next : {A : Type 0} (i : ℕ) (old : List A) (v : A) (st : List A) → drop i old ≡ v ∷ st → (take (suc i) old ≡ take i old ++ v ∷ []) × (drop (suc i) old ≡ st)
top-next zero [] v st e = absurd cc
top-next zero (x ∷ xs) v st e = let a : x ≡ v = cc in let b : xs ≡ st = cc in (ap (λ y. y ∷ []) a, b)
top-next (suc i) [] v st e = absurd cc
top-next (suc i) (x ∷ xs) v st e = let h = top-next i xs v st e in (ap (λ l. x ∷ l) h.0, h.1)

pub top-none : {A : Type 0} (i : ℕ) (old : List A) → drop i old ≡ [] → i < length old → ⊥
top-none zero [] e h = omega (arith, h)
top-none zero (x ∷ xs) e h = absurd cc
top-none (suc i) [] e h = omega (arith, h)
top-none (suc i) (x ∷ xs) e h = let k : i < length xs = omega (arith, h) in top-none i xs e k

pub take-all : {A : Type 0} (xs : List A) → take (length xs) xs ≡ xs
take-all [] = refl
take-all (x ∷ xs) = ap (λ l. x ∷ l) (take-all xs)

pub drop-all : {A : Type 0} (xs : List A) → drop (length xs) xs ≡ []
drop-all [] = refl
drop-all (x ∷ xs) = drop-all xs
