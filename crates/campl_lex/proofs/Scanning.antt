-- How a literal is scanned, one character after another.
use Rattle.std.proofs.Common.{◌≡◌, ℕ, zero, suc, ◌+◌, ◌<◌, ◌≤◌, Bool, true, false, cond, ◌&&◌, eqb, List, [], ◌∷◌, length, drop, take, get_or, Option}
use Rattle.std.proofs.Common.{Some, None, refl, sym, ap, ◌∙◌, arith, zero-add, add_assoc, add-one, one-add, add_comm, nat_le}
use Rattle.std.specs.List.{prefix_len}
use Rattle.std.proofs.lemmas.Bool.Decides.{nat_tests}
use Rattle.std.proofs.lemmas.List.{get_or_past, drop-drop}
use Rattle.std.proofs.lemmas.List.Sums.{prefix_len-le-length}
use lib.Utf8.{scalar}
use Rattle.campl_lex.specs.declared.literal.Stop.{Stop}
use Rattle.campl_lex.specs.declared.literal.Stop.TheVariants as stop
use Rattle.campl_lex.specs.declared.literal.Body.{Body}
use Rattle.campl_lex.specs.Literal.{short_escape, is_hex_digit, hex_value}
use Rattle.campl_lex.specs.Meaning.{braced, unicode, short_or}
use Rattle.campl_lex.specs.Reading.{length_of, escape_len, tail_len, item_len, stop_of, stopped, longer, scan}

pub longer_none : (b : Body) → longer 0 0 b ≡ b
longer_none b = simp zero-add

pub longer_longer : (l k m n : ℕ) (b : Body) → longer l k (longer m n b) ≡ longer (l + m) (k + n) b
longer_longer l k m n b = simp add_assoc

braced_within : (n : ℕ) (cs : List ℕ) → n ≤ length cs → length_of (braced n cs) ≤ length cs + 2
braced_within n cs h = by (nat_le 1 n) (nat_le n 6) (eqb (get_or cs n 0) 125) (scalar (hex_value (take n cs))) (grind (arith, nat_tests, get_or_past))
  where
    by : (a b c d : Bool) → (c ≡ true → n < length cs) → length_of (cond (a && b && c && d) (Some (hex_value (take n cs), n + 3)) None) ≤ length cs + 2
    by true true true true k = let l : n < length cs = k refl in omega arith
    by true true true false k = omega arith
    by true true false d k = omega arith
    by true false c d k = omega arith
    by false b c d k = omega arith

unicode_within : (cs : List ℕ) → length_of (unicode cs) ≤ length cs + 1
unicode_within [] = omega arith
unicode_within (c ∷ cs) = by (eqb c 123)
  where
    by : (b : Bool) → length_of (cond b (braced (prefix_len is_hex_digit cs) cs) None) ≤ length (c ∷ cs) + 1
    by true = omega (arith, braced_within (prefix_len is_hex_digit cs) cs (prefix_len-le-length is_hex_digit cs))
    by false = omega arith

pub escape_within : (cs : List ℕ) → escape_len cs ≤ length cs
escape_within [] = omega arith
escape_within (c ∷ cs) = by (short_escape c) (eqb c 117)
  where
    by : (o : Option ℕ) (b : Bool) → length_of (short_or o (cond b (unicode cs) None)) ≤ length (c ∷ cs)
    by (Some x) b = omega arith
    by None true = omega (arith, unicode_within cs)
    by None false = omega arith

pub tail_within : (c : ℕ) (cs : List ℕ) → tail_len c cs ≤ length cs
tail_within c cs = by (eqb c 92)
  where
    by : (b : Bool) → cond b (escape_len cs) 0 ≤ length cs
    by true = escape_within cs
    by false = omega arith

pub scan_skip : (q n : ℕ) (cs : List ℕ) → n ≤ length cs → scan q n cs ≡ longer n 0 (scan q 0 (drop n cs))
scan_skip q zero [] h = refl
scan_skip q zero (c ∷ cs) h = sym (longer_none (scan q 0 (c ∷ cs)))
scan_skip q (suc n) [] h = absurd (omega arith)
scan_skip q (suc n) (c ∷ cs) h = ap (longer 1 0) (scan_skip q n cs (omega arith)) ∙ longer_longer 1 0 n 0 (scan q 0 (drop n cs)) ∙ ap (λ m. longer m 0 (scan q 0 (drop n cs))) (one-add n)

pub scan_step : (q : ℕ) (cs : List ℕ) → stop_of q cs ≡ None → scan q 0 cs ≡ longer (item_len cs) 1 (scan q 0 (drop (item_len cs) cs))
scan_step q [] h = cc
scan_step q (c ∷ cs) h =
    ap (λ o. stopped o (longer 1 1 (scan q (tail_len c cs) cs))) h
    ∙ ap (longer 1 1) (scan_skip q (tail_len c cs) cs (tail_within c cs))
    ∙ longer_longer 1 1 (tail_len c cs) 0 (scan q 0 (drop (tail_len c cs) cs))
    ∙ ap (λ m. longer m 1 (scan q 0 (drop (tail_len c cs) cs))) (add_comm 1 (tail_len c cs))
    ∙ ap (λ m. longer (tail_len c cs + 1) 1 (scan q 0 (drop m (c ∷ cs)))) (sym (add-one (tail_len c cs)))

pub scan_stops : (q : ℕ) (cs : List ℕ) (why : Stop) → stop_of q cs ≡ Some why → scan q 0 cs ≡ record { stop = why; length = 0; count = 0 }
scan_stops q [] why h = let e : stop.LineEnd ≡ why = cc in ap (λ w. record { stop = w; length = 0; count = 0 }) e
scan_stops q (c ∷ cs) why h = ap (λ o. stopped o (longer 1 1 (scan q (tail_len c cs) cs))) h

-- one more character of a literal
pub scan_goes_on : (q length count item : ℕ) (text : List ℕ) → item ≡ item_len (drop length text) → stop_of q (drop length text) ≡ None
    → longer (length + item) (count + 1) (scan q 0 (drop (length + item) text)) ≡ longer length count (scan q 0 (drop length text))
scan_goes_on q length count item text e h =
    ap (λ cs. longer (length + item) (count + 1) (scan q 0 cs)) (sym (drop-drop item length text))
    ∙ sym (longer_longer length count item 1 (scan q 0 (drop item (drop length text))))
    ∙ ap (λ n. longer length count (longer n 1 (scan q 0 (drop n (drop length text))))) e
    ∙ ap (longer length count) (sym (scan_step q (drop length text) h))

-- a closing quote stands within the text
pub scan_closed : (q n : ℕ) (cs : List ℕ) → (scan q n cs).stop ≡ stop.Quote → (scan q n cs).length < length cs
scan_closed q n [] h = cc
scan_closed q (suc n) (c ∷ cs) h = let k : (scan q n cs).length < length cs = scan_closed q n cs h in omega arith
scan_closed q zero (c ∷ cs) h = by (stop_of q (c ∷ cs)) h (scan_closed q (tail_len c cs) cs)
  where
    by : (o : Option Stop) → (stopped o (longer 1 1 (scan q (tail_len c cs) cs))).stop ≡ stop.Quote
        → ((scan q (tail_len c cs) cs).stop ≡ stop.Quote → (scan q (tail_len c cs) cs).length < length cs)
        → (stopped o (longer 1 1 (scan q (tail_len c cs) cs))).length < suc (length cs)
    by (Some why) h k = omega arith
    by None h k = let l : (scan q (tail_len c cs) cs).length < length cs = k h in omega arith
