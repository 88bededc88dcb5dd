-- The lines of a text, one after another.
use Rattle.std.proofs.Common.{◌≡◌, refl, sym, subst, ap, ◌∙◌, ℕ, suc, ◌+◌, ◌-◌, ◌<◌, ◌≤◌, arith, List, [], ◌∷◌, length, take, drop}
use Rattle.std.specs.Prelude.{◌==◌, not, cond, Bool, true, false, if◌then◌else◌}
use Rattle.std.specs.List.{prefix_len}
use Rattle.std.proofs.lemmas.List.{take_all, drop_all, length-drop}
use Rattle.campl_service.specs.Reading.{pieces, put_first}

-- a character that ends no line
abbrev pub stays : ℕ → Bool
stays c = not (c == 10)

longer : (c : ℕ) (cs : List ℕ) (n : ℕ) → take (1 + n) (c ∷ cs) ∷ pieces (drop (1 + n + 1) (c ∷ cs)) ≡ (c ∷ take n cs) ∷ pieces (drop (n + 1) cs)
longer c cs n =
    let e : 1 + n ≡ suc n = omega arith in
    let f : 1 + n + 1 ≡ suc (n + 1) = omega arith in
    ap (λ k. take k (c ∷ cs) ∷ pieces (drop (1 + n + 1) (c ∷ cs))) e ∙ ap (λ k. (c ∷ take n cs) ∷ pieces (drop k (c ∷ cs))) f

by_test : (b : Bool) (c : ℕ) (cs : List ℕ) → put_first c (pieces cs) ≡ (c ∷ take (prefix_len stays cs) cs) ∷ pieces (drop (prefix_len stays cs + 1) cs)
    → (if b then [] ∷ pieces cs else put_first c (pieces cs))
    ≡ take (cond (not b) (1 + prefix_len stays cs) 0) (c ∷ cs) ∷ pieces (drop (cond (not b) (1 + prefix_len stays cs) 0 + 1) (c ∷ cs))
by_test true c cs h = refl
by_test false c cs h = h ∙ sym (longer c cs (prefix_len stays cs))

first_piece : (c : ℕ) (cs : List ℕ) → put_first c (pieces cs) ≡ (c ∷ take (prefix_len stays cs) cs) ∷ pieces (drop (prefix_len stays cs + 1) cs)
first_piece c [] = refl
first_piece c (d ∷ ds) = ap (put_first c) (by_test (d == 10) d ds (first_piece d ds))

-- a text that isn't empty begins with the piece before its first line feed
pub pieces-split : (cs : List ℕ) → 0 < length cs → pieces cs ≡ take (prefix_len stays cs) cs ∷ pieces (drop (prefix_len stays cs + 1) cs)
pieces-split [] h = absurd (omega (arith, h))
pieces-split (c ∷ cs) h = by_test (c == 10) c cs (first_piece c cs)

-- where there is no line feed, that is all
pub pieces-whole : (cs : List ℕ) → 0 < length cs → length cs ≤ prefix_len stays cs → pieces cs ≡ cs ∷ pieces (drop (prefix_len stays cs) cs)
pieces-whole cs h all =
    pieces-split cs h
    ∙ (ap (λ front. front ∷ pieces (drop (prefix_len stays cs + 1) cs)) (take_all (prefix_len stays cs) cs all)
    ∙ ap (λ rest. cs ∷ pieces rest) (drop_all (prefix_len stays cs + 1) cs (omega arith) ∙ sym (drop_all (prefix_len stays cs) cs all)))

-- what stands behind a place, as a slice to the end
pub tail_is : {A : Type 0} (xs : List A) (k : ℕ) → take (length xs - k) (drop k xs) ≡ drop k xs
tail_is xs k = take_all (length xs - k) (drop k xs) (omega (arith, length-drop k xs))

-- the same as slices
pub split_there : (cs : List ℕ) (n : ℕ) → 0 < length cs → n ≡ prefix_len stays cs → pieces cs ≡ take n cs ∷ pieces (take (length cs - (n + 1)) (drop (n + 1) cs))
split_there cs n h e =
    let P : ℕ → Type 0 = λ k. pieces cs ≡ take k cs ∷ pieces (drop (k + 1) cs) in
    subst P (sym e) (pieces-split cs h) ∙ ap (λ rest. take n cs ∷ pieces rest) (sym (tail_is cs (n + 1)))

pub split_nowhere : (cs : List ℕ) (n : ℕ) → 0 < length cs → n ≡ prefix_len stays cs → length cs ≤ n → pieces cs ≡ cs ∷ pieces (take (length cs - n) (drop n cs))
split_nowhere cs n h e all =
    let P : ℕ → Type 0 = λ k. pieces cs ≡ cs ∷ pieces (drop k cs) in
    let within : length cs ≤ prefix_len stays cs = omega arith in
    subst P (sym e) (pieces-whole cs h within) ∙ ap (λ rest. cs ∷ pieces rest) (sym (tail_is cs n))
