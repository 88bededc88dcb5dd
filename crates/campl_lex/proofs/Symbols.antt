-- The longest symbol.
use Rattle.std.proofs.Common.{◌≡◌, ℕ, suc, ◌≤◌, Bool, true, false, cond, not, ◌&&◌, ◌==◌, List, [], ◌∷◌, ◌++◌, length, None, ◌≢◌, refl, subst, arith}
use Rattle.campl_lex.specs.Spelling.{singles, doubles, triples, kind_in, symbol, is_symbol, is_single, is_double, is_triple}
use Rattle.campl_lex.specs.Reading.{symbol_len, peek}
use Rattle.campl_lex.proofs.Classes.{begins_symbol, double_begins, triple_begins}

-- a symbol's kind stands in the table of its length
pub of_one : (w : List ℕ) → length w ≡ 1 → symbol w ≡ kind_in singles w
of_one [] h = absurd (omega arith)
of_one (a ∷ []) h = refl
of_one (a ∷ b ∷ w) h = absurd (omega arith)

pub of_two : (w : List ℕ) → length w ≡ 2 → symbol w ≡ kind_in doubles w
of_two [] h = absurd (omega arith)
of_two (a ∷ []) h = absurd (omega arith)
of_two (a ∷ b ∷ []) h = refl
of_two (a ∷ b ∷ c ∷ w) h = absurd (omega arith)

pub of_three : (w : List ℕ) → length w ≡ 3 → symbol w ≡ kind_in triples w
of_three [] h = absurd (omega arith)
of_three (a ∷ []) h = absurd (omega arith)
of_three (a ∷ b ∷ []) h = absurd (omega arith)
of_three (a ∷ b ∷ c ∷ []) h = refl
of_three (a ∷ b ∷ c ∷ d ∷ w) h = absurd (omega arith)

pub of_more : (w : List ℕ) → length w ≢ 1 → length w ≢ 2 → length w ≢ 3 → symbol w ≡ None
of_more [] h j k = refl
of_more (a ∷ []) h j k = absurd (omega arith)
of_more (a ∷ b ∷ []) h j k = absurd (omega arith)
of_more (a ∷ b ∷ c ∷ []) h j k = absurd (omega arith)
of_more (a ∷ b ∷ c ∷ d ∷ w) h j k = refl

second : (x y : Bool) → (x && y) ≡ true → y ≡ true
second true y h = h
second false y h = cc

last_two : (x y z : Bool) → (x && y && z) ≡ true → (y ≡ true) × (z ≡ true)
last_two true true z h = (refl, h)
last_two true false z h = cc
last_two false y z h = cc

-- no symbol at the front is longer
pub symbol_longest : (b : ℕ) (w y : List ℕ) → is_symbol (b ∷ w) ≡ true → length (b ∷ w) ≤ symbol_len b (w ++ y)
symbol_longest b [] y h = by (is_triple b (peek 0 y) (peek 1 y)) (is_double b (peek 0 y)) (is_single b) h
  where
    by : (t d s : Bool) → s ≡ true → 1 ≤ cond t 3 (cond d 2 (cond s 1 0))
    by true d s h = omega arith
    by false true s h = omega arith
    by false false true h = omega arith
    by false false false h = cc
symbol_longest b (c ∷ []) y h = by (is_triple b c (peek 0 y)) (is_double b c) (is_single b) h
  where
    by : (t d s : Bool) → d ≡ true → 2 ≤ cond t 3 (cond d 2 (cond s 1 0))
    by true d s h = omega arith
    by false true s h = omega arith
    by false false s h = cc
symbol_longest b (c ∷ d ∷ []) y h = by (is_triple b c d) (is_double b c) (is_single b) h
  where
    by : (t u s : Bool) → t ≡ true → 3 ≤ cond t 3 (cond u 2 (cond s 1 0))
    by true u s h = omega arith
    by false u s h = cc
symbol_longest b (c ∷ d ∷ e ∷ w) y h = cc

-- n characters at the front are a symbol
abbrev pub HasSymbol : ℕ → List ℕ → ℕ → Type 0
HasSymbol a cs n = (w : List ℕ) × (rest : List ℕ) × (a ∷ cs ≡ w ++ rest) × (length w ≡ n) × (is_symbol w ≡ true)

triple_found : (a : ℕ) (cs : List ℕ) → is_triple a (peek 0 cs) (peek 1 cs) ≡ true → HasSymbol a cs 3
triple_found a [] h = absurd (let k : false ≡ true = (last_two (begins_symbol a) (not (0 == 0)) (not (0 == 0)) (triple_begins a 0 0 h)).0 in cc)
triple_found a (b ∷ []) h = absurd (let k : false ≡ true = (last_two (begins_symbol a) (not (b == 0)) (not (0 == 0)) (triple_begins a b 0 h)).1 in cc)
triple_found a (b ∷ c ∷ cs) h = (a ∷ b ∷ c ∷ [], cs, refl, refl, h)

double_found : (a : ℕ) (cs : List ℕ) → is_double a (peek 0 cs) ≡ true → HasSymbol a cs 2
double_found a [] h = absurd (let k : false ≡ true = second (begins_symbol a) (not (0 == 0)) (double_begins a 0 h) in cc)
double_found a (b ∷ cs) h = (a ∷ b ∷ [], cs, refl, refl, h)

pub symbol_found : (a : ℕ) (cs : List ℕ) (n : ℕ) → symbol_len a cs ≡ suc n → HasSymbol a cs (suc n)
symbol_found a cs n e = by (is_triple a (peek 0 cs) (peek 1 cs)) refl (is_double a (peek 0 cs)) refl (is_single a) refl e
  where
    by : (t : Bool) → is_triple a (peek 0 cs) (peek 1 cs) ≡ t → (d : Bool) → is_double a (peek 0 cs) ≡ d → (s : Bool) → is_single a ≡ s
        → cond t 3 (cond d 2 (cond s 1 0)) ≡ suc n → HasSymbol a cs (suc n)
    by true t d u s v e = subst (HasSymbol a cs) e (triple_found a cs t)
    by false t true u s v e = subst (HasSymbol a cs) e (double_found a cs u)
    by false t false u true v e = subst (HasSymbol a cs) e (a ∷ [], cs, refl, refl, v)
    by false t false u false v e = absurd (omega arith)
