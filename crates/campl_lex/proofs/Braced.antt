-- An escape of digits in braces is read digit by digit.
use Rattle.std.proofs.Common.{◌≡◌, ℕ, suc, ◌+◌, ◌*◌, ◌^◌, ◌<◌, ◌≤◌, Bool, true, false, cond, ◌&&◌, eqb, nat_le, List, [], ◌∷◌, ◌++◌, length, take}
use Rattle.std.proofs.Common.{drop, get_or, Option, Some, None, refl, sym, ap, ◌∙◌, arith, length-drop, add-zero, add-one, lit<}
use Rattle.std.specs.List.{prefix_len}
use Rattle.std.specs.Char.{digit_value}
use Rattle.std.proofs.Math.Nat.{pow-suc, pow-le-pow_right}
use Rattle.std.proofs.lemmas.Bool.Decides.{nat_tests}
use Rattle.std.proofs.lemmas.List.{take_more, drop_more}
use Rattle.std.proofs.lemmas.List.Sums.{fold_push}
use lib.Utf8.{scalar}
use Rattle.campl_lex.specs.Literal.{is_hex_digit, hex_digit, hex_value}
use Rattle.campl_lex.specs.Meaning.{braced}

module _ (cs : List ℕ) (i c : ℕ) (tail : List ℕ) (here : drop i cs ≡ c ∷ tail) where
  within : i < length cs
  within = let size : length (drop i cs) ≡ suc (length tail) = ap length here in omega (arith, length-drop i cs)

  split : c ∷ tail ≡ get_or cs i 0 ∷ drop (i + 1) cs
  split = sym here ∙ drop_more cs i 0 within

  is_here : get_or cs i 0 ≡ c
  is_here = let e = split in cc

  pub behind : tail ≡ drop (i + 1) cs
  behind = let e = split in cc

-- the closing brace stands here, behind one to six digits
pub closes : (cs : List ℕ) (i value : ℕ) (tail : List ℕ) → drop i cs ≡ 125 ∷ tail → prefix_len is_hex_digit cs ≡ i + prefix_len is_hex_digit (drop i cs)
    → value ≡ hex_value (take i cs) → 0 < i → i < 7 → scalar value ≡ true → braced (prefix_len is_hex_digit cs) cs ≡ Some (value, i + 1 + 2)
closes cs i value tail here run is some few known =
    let none : prefix_len is_hex_digit (125 ∷ tail) ≡ 0 = refl in
    let size : prefix_len is_hex_digit cs ≡ i = run ∙ ap (λ t. i + prefix_len is_hex_digit t) here ∙ add-zero i in
    let low : nat_le 1 i ≡ true = grind (arith, nat_tests) in
    let high : nat_le i 6 ≡ true = grind (arith, nat_tests) in
    let brace : eqb (get_or cs i 0) 125 ≡ true = ap (λ c. eqb c 125) (is_here cs i 125 tail here) in
    let valid : scalar (hex_value (take i cs)) ≡ true = ap scalar (sym is) ∙ known in
    ap (λ n. braced n cs) size
    ∙ all (nat_le 1 i) (nat_le i 6) (eqb (get_or cs i 0) 125) (scalar (hex_value (take i cs))) low high brace valid
    ∙ ap (λ v. Some (v, i + 3)) (sym is)
    ∙ ap (λ n. Some (value, n)) (let e : i + 3 ≡ i + 1 + 2 = omega arith in e)
  where
    all : (x y z s : Bool) → x ≡ true → y ≡ true → z ≡ true → s ≡ true
        → cond {A = Option (ℕ × ℕ)} (x && y && z && s) (Some (hex_value (take i cs), i + 3)) None ≡ Some (hex_value (take i cs), i + 3)
    all true true true true e f g h = refl
    all false y z s e f g h = cc
    all true false z s e f g h = cc
    all true true false s e f g h = cc
    all true true true false e f g h = cc

-- one more digit
pub value_more : (cs : List ℕ) (i value c : ℕ) (tail : List ℕ) → drop i cs ≡ c ∷ tail → value ≡ hex_value (take i cs) → digit_value c < 16
    → value * 16 + digit_value c ≡ hex_value (take (i + 1) cs)
value_more cs i value c tail here is small =
    let hex : is_hex_digit c ≡ true = grind (arith, nat_tests) in
    let digit : hex_digit c ≡ digit_value c = ap (λ b. cond b (digit_value c) 0) hex in
    let front : take (i + 1) cs ≡ take i cs ++ c ∷ [] =
    take_more cs i 0 (within cs i c tail here) ∙ ap (λ d. take i cs ++ d ∷ []) (is_here cs i c tail here) in
    let more : hex_value (take (i + 1) cs) ≡ hex_value (take i cs) * 16 + hex_digit c =
    ap hex_value front ∙ fold_push (λ n d. n * 16 + hex_digit d) 0 (take i cs) c in
    omega arith

pub run_more : (cs : List ℕ) (i c : ℕ) (tail : List ℕ) → drop i cs ≡ c ∷ tail → digit_value c < 16 → prefix_len is_hex_digit cs ≡ i + prefix_len is_hex_digit (drop i cs)
    → prefix_len is_hex_digit cs ≡ i + 1 + prefix_len is_hex_digit (drop (i + 1) cs)
run_more cs i c tail here small run =
    let hex : is_hex_digit c ≡ true = grind (arith, nat_tests) in
    let one : prefix_len is_hex_digit (drop i cs) ≡ 1 + prefix_len is_hex_digit tail =
    ap (prefix_len is_hex_digit) here ∙ ap (λ b. cond b (1 + prefix_len is_hex_digit tail) 0) hex in
    let rest : prefix_len is_hex_digit tail ≡ prefix_len is_hex_digit (drop (i + 1) cs) = ap (prefix_len is_hex_digit) (behind cs i c tail here) in
    omega arith

-- few digits are a small number
pub small : (value i : ℕ) → value < 16 ^ i → i < 7 → value < 16777216
small value i h l =
    let six : 16 ^ i ≤ 16 ^ 6 = pow-le-pow_right (lit< tt) (let k : i ≤ 6 = omega arith in k) in
    omega arith

pub small_more : (value i digit : ℕ) → value < 16 ^ i → digit < 16 → value * 16 + digit < 16 ^ (i + 1)
small_more value i digit h l =
    let e : 16 ^ (i + 1) ≡ 16 ^ i * 16 = ap (λ n. 16 ^ n) (add-one i) ∙ pow-suc 16 i in
    omega arith
