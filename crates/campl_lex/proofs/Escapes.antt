-- Escapes are what is read of them.
use Rattle.std.proofs.Common.{◌≡◌, ℕ, suc, ◌+◌, ◌<◌, ◌≤◌, Bool, true, false, cond, ◌&&◌, eqb, nat_le, List, [], ◌∷◌, ◌++◌, length, take, drop, get_or}
use Rattle.std.proofs.Common.{Option, Some, None, refl, sym, ap, ◌∙◌, subst, arith, length-append, append_assoc}
use Rattle.std.specs.List.{prefix_len, list_all}
use Rattle.std.proofs.lemmas.Bool.Decides.{nat_tests}
use Rattle.std.proofs.lemmas.List.{take_at, drop_more, get_or_at, get_or_past, take-append-drop}
use Rattle.std.proofs.lemmas.List.Folds.{length-prefix_len}
use lib.Utf8.{scalar}
use Rattle.campl_lex.specs.Literal.{IsEscape, short_escape, is_hex_digit, hex_value}
use Rattle.campl_lex.specs.Meaning.{braced, unicode, short_or, escape}
use Rattle.campl_lex.specs.Literal as escaped
use Rattle.campl_lex.specs.Reading.{length_of, escape_len}
use Rattle.campl_lex.proofs.Runs.{run_passes, run_before}

braced_is : (n : ℕ) (cs : List ℕ) → 1 ≤ n → n ≤ 6 → get_or cs n 0 ≡ 125 → scalar (hex_value (take n cs)) ≡ true → braced n cs ≡ Some (hex_value (take n cs), n + 3)
braced_is n cs a b d s =
    let x : nat_le 1 n ≡ true = grind (arith, nat_tests) in
    let y : nat_le n 6 ≡ true = grind (arith, nat_tests) in
    let z : eqb (get_or cs n 0) 125 ≡ true = ap (λ c. eqb c 125) d in
    all (nat_le 1 n) (nat_le n 6) (eqb (get_or cs n 0) 125) (scalar (hex_value (take n cs))) x y z s
  where
    all : (x y z s : Bool) → x ≡ true → y ≡ true → z ≡ true → s ≡ true
        → cond {A = Option (ℕ × ℕ)} (x && y && z && s) (Some (hex_value (take n cs), n + 3)) None ≡ Some (hex_value (take n cs), n + 3)
    all true true true true e f g h = refl
    all false y z s e f g h = cc
    all true false z s e f g h = cc
    all true true false s e f g h = cc
    all true true true false e f g h = cc

-- an escape is read as what it stands for, whatever follows
pub escape_reads : {e : List ℕ} {c : ℕ} → IsEscape e c → (rest : List ℕ) → escape (e ++ rest) ≡ Some (c, length e)
escape_reads (escaped.short x c h) rest = ap (λ o. short_or o (cond (eqb x 117) (unicode rest) None)) h
escape_reads (escaped.unicode h a l m s) rest =
    let cs : List ℕ = h ++ (125 ∷ rest) in
    let same : (h ++ 125 ∷ []) ++ rest ≡ cs = append_assoc h (125 ∷ []) rest in
    let run : prefix_len is_hex_digit cs ≡ length h = run_before is_hex_digit h 125 rest a refl in
    let at : get_or cs (length h) 0 ≡ 125 = get_or_at h 125 rest 0 (length h) refl in
    let front : take (length h) cs ≡ h = take_at h (125 ∷ rest) (length h) refl in
    let size : length (h ++ 125 ∷ []) ≡ length h + 1 = length-append h (125 ∷ []) in
    ap (λ t. braced (prefix_len is_hex_digit t) t) same
    ∙ ap (λ n. braced n cs) run
    ∙ braced_is (length h) cs l m at (ap (λ t. scalar (hex_value t)) front ∙ s)
    ∙ ap (λ t. Some (hex_value t, length h + 3)) front
    ∙ ap (λ n. Some (hex_value h, n)) (let e : length h + 3 ≡ suc (suc (length (h ++ 125 ∷ []))) = omega arith in e)

-- its length
pub escape_is : {e : List ℕ} {c : ℕ} → IsEscape e c → (rest : List ℕ) → escape_len (e ++ rest) ≡ length e
escape_is k rest = ap length_of (escape_reads k rest)

-- an escape at the front of a text
abbrev pub HasEscape : List ℕ → ℕ → Type 0
HasEscape cs n = (e : List ℕ) × (rest : List ℕ) × (c : ℕ) × (cs ≡ e ++ rest) × IsEscape e c × (length e ≡ n)

braced_found : (ds : List ℕ) (n : ℕ) → length_of (braced (prefix_len is_hex_digit ds) ds) ≡ suc n → HasEscape (117 ∷ 123 ∷ ds) (suc n)
braced_found ds n h = let m = prefix_len is_hex_digit ds in by m refl (nat_le 1 m) refl (nat_le m 6) refl (eqb (get_or ds m 0) 125) refl (scalar (hex_value (take m ds))) refl h
  where
    by : (k : ℕ) → k ≡ prefix_len is_hex_digit ds → (x : Bool) → nat_le 1 k ≡ x → (y : Bool) → nat_le k 6 ≡ y → (z : Bool) → eqb (get_or ds k 0) 125 ≡ z
        → (s : Bool) → scalar (hex_value (take k ds)) ≡ s → length_of (cond (x && y && z && s) (Some (hex_value (take k ds), k + 3)) None) ≡ suc n → HasEscape (117 ∷ 123 ∷ ds) (suc n)
    by k e true a true b true d true t h =
        let here : k < length ds = grind (arith, nat_tests, get_or_past) in
        let brace : get_or ds k 0 ≡ 125 = grind (arith, nat_tests) in
        let digits : length (take k ds) ≡ k = ap (λ j. length (take j ds)) e ∙ length-prefix_len is_hex_digit ds ∙ sym e in
        let passes : list_all is_hex_digit (take k ds) ≡ true = ap (λ j. list_all is_hex_digit (take j ds)) e ∙ run_passes is_hex_digit ds in
        let low : 1 ≤ length (take k ds) = grind (arith, nat_tests) in
        let high : length (take k ds) ≤ 6 = grind (arith, nat_tests) in
        let split : ds ≡ take k ds ++ (125 ∷ drop (k + 1) ds) =
        sym (take-append-drop k ds) ∙ ap (λ r. take k ds ++ r) (drop_more ds k 0 here ∙ ap (λ c. c ∷ drop (k + 1) ds) brace) in
        let size : length (take k ds ++ 125 ∷ []) ≡ length (take k ds) + 1 = length-append (take k ds) (125 ∷ []) in (
          117 ∷ 123 ∷ (take k ds ++ 125 ∷ []),
          drop (k + 1) ds,
          hex_value (take k ds),
          ap (λ r. 117 ∷ 123 ∷ r) (split ∙ sym (append_assoc (take k ds) (125 ∷ []) (drop (k + 1) ds))),
          escaped.unicode (take k ds) passes low high t,
          omega arith,
        )
    by k e true a true b true d false t h = absurd (omega arith)
    by k e true a true b false d s t h = absurd (omega arith)
    by k e true a false b z d s t h = absurd (omega arith)
    by k e false a y b z d s t h = absurd (omega arith)

pub escape_found : (cs : List ℕ) (n : ℕ) → escape_len cs ≡ suc n → HasEscape cs (suc n)
escape_found [] n h = absurd (omega arith)
escape_found (c ∷ cs) n h = by (short_escape c) refl (eqb c 117) refl h
  where
    tail : (ds : List ℕ) → length_of (unicode ds) ≡ suc n → HasEscape (117 ∷ ds) (suc n)
    tail [] h = absurd (omega arith)
    tail (d ∷ ds) h = brace (eqb d 123) refl h
      where
        brace : (b : Bool) → eqb d 123 ≡ b → length_of (cond b (braced (prefix_len is_hex_digit ds) ds) None) ≡ suc n → HasEscape (117 ∷ d ∷ ds) (suc n)
        brace true e h = let same : d ≡ 123 = grind (arith, nat_tests) in subst (λ x. HasEscape (117 ∷ x ∷ ds) (suc n)) (sym same) (braced_found ds n h)
        brace false e h = absurd (omega arith)

    by : (o : Option ℕ) → short_escape c ≡ o → (b : Bool) → eqb c 117 ≡ b → length_of (short_or o (cond b (unicode cs) None)) ≡ suc n → HasEscape (c ∷ cs) (suc n)
    by (Some d) e b f h = (c ∷ [], cs, d, refl, escaped.short c d e, h)
    by None e true f h = let same : c ≡ 117 = grind (arith, nat_tests) in subst (λ x. HasEscape (x ∷ cs) (suc n)) (sym same) (tail cs h)
    by None e false f h = absurd (omega arith)

pub escape_some : {e : List ℕ} {c : ℕ} → IsEscape e c → 0 < length e
escape_some (escaped.short x c h) = omega arith
escape_some (escaped.unicode h a l m s) = omega arith
