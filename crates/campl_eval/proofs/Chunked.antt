-- Frames above others.
use Rattle.std.proofs.Common.{◌≡◌, ◌∙◌, ℕ, ◌<◌, ◌≤◌, ◌-◌, length-drop, ◌==◌, false, List, [], ◌∷◌, ◌++◌, length, reverse, take, drop, sym, ap, refl, arith}
use Rattle.std.proofs.Math.Seq.{take-append_seam, drop-append_seam}
use Rattle.std.proofs.lemmas.Bool.{ne_eqb, eqb-false}
use Rattle.std.proofs.lemmas.List.{reverse-append, take-append-drop, length-reverse, append_assoc}
use Rattle.campl_eval.specs.View.{has_none}

pub some-above : {A : Type 0} (xs ys : List A) → 0 < length xs → has_none (reverse xs ++ ys) ≡ false
some-above {A = A} xs ys h = go (reverse xs) (omega (arith, h, length-reverse xs))
  where
    go : (zs : List A) → 0 < length zs → has_none (zs ++ ys) ≡ false
    go [] h = absurd (omega (arith, h))
    go (z ∷ zs) h = refl

pub never : {A : Type 0} (n : ℕ) (xs ys : List A) → n ≡ length xs → 0 < length xs → (n == 0) ≡ has_none (reverse xs ++ ys)
never n xs ys l h = ne_eqb n 0 (λ e. omega (arith, e, l, h)) ∙ sym (some-above xs ys h)

-- where there is one
pub not-none : {A : Type 0} (n : ℕ) (xs ys : List A) → n ≡ length xs → (n == 0) ≡ false → false ≡ has_none (reverse xs ++ ys)
not-none n [] ys l e = absurd (eqb-false n 0 e l)
not-none n (x ∷ xs) ys l e = sym (some-above (x ∷ xs) ys (omega arith))

-- the upper part on the lower, which were turned round
pub in-two : {A : Type 0} (n k : ℕ) (xs ys : List A) → n ≤ length xs → k ≡ length xs - n →
    reverse (take k (drop n xs ++ take n xs)) ++ (reverse (drop k (drop n xs ++ take n xs)) ++ ys) ≡ reverse xs ++ ys
in-two n k xs ys h e =
    let l : k ≡ length (drop n xs) = e ∙ sym (length-drop n xs) in
    rw (l, take-append_seam (drop n xs) (take n xs), drop-append_seam (drop n xs) (take n xs))
    (sym (append_assoc (reverse (drop n xs)) (reverse (take n xs)) ys)
    ∙ ap (λ zs. zs ++ ys) (sym (reverse-append (take n xs) (drop n xs)) ∙ ap reverse (take-append-drop n xs)))
