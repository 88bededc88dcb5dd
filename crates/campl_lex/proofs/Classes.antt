-- Which characters begin what.
use Rattle.std.proofs.Common.{◌≡◌, ℕ, ◌<◌, Bool, true, false, cond, not, ◌&&◌, ◌||◌, ◌==◌, nat_lt, List, [], ◌∷◌, get_or, Some, is_some, refl, ap}
use Rattle.std.proofs.Common.{◌∙◌, arith}
use Rattle.std.specs.List.{list_all}
use Rattle.std.specs.Str.{bytes_eq}
use Rattle.std.specs.Char.{is_ascii_digit, is_ascii_alphabetic}
use Rattle.std.proofs.lemmas.Bool.Decides.{nat_tests}
use Rattle.std.proofs.lemmas.Slice.Eq.{bytes_eq-Decides}
use Rattle.unicode_ident.proofs.IdentLemmas.{is_xid_start-ascii}
use Rattle.campl_lex.specs.declared.token.TokenKind.{TokenKind}
use Rattle.campl_lex.specs.Spelling.{begins_name, kind_in, is_symbol, is_single, is_double, is_triple, singles, doubles, triples}
use Rattle.campl_lex.specs.Tokens.{is_quote}

pub no_name : (c : ℕ) → c < 128 → (is_ascii_alphabetic c || c == 95) ≡ false → begins_name c ≡ false
no_name c h e = ap (λ b. b || c == 95) (is_xid_start-ascii c h) ∙ e

pub digit_no_name : (c : ℕ) → is_ascii_digit c ≡ true → begins_name c ≡ false
digit_no_name c h = no_name c (grind (arith, nat_tests)) (grind (arith, nat_tests))

-- a character with which a symbol may begin begins nothing else
abbrev pub begins_symbol : ℕ → Bool
begins_symbol c = nat_lt c 128 && not (is_ascii_alphabetic c || c == 95) && not (is_ascii_digit c) && not (is_quote c) && not (c == 9) && not (c == 32) && not (c == 10) && not (c == 13)

-- what passes for each spelling of a table passes for a word that stands there
among : (p : List ℕ → Bool) (w : List ℕ) (table : List (List ℕ × TokenKind)) → is_some (kind_in table w) ≡ true → list_all (λ e. p e.0) table ≡ true → p w ≡ true
among p w [] h k = cc
among p w (e ∷ table) h k = by (bytes_eq w e.0) refl (p e.0) refl h k (among p w table)
  where
    by : (b : Bool) → bytes_eq w e.0 ≡ b → (d : Bool) → p e.0 ≡ d → is_some (cond b (Some e.1) (kind_in table w)) ≡ true → (d && list_all (λ e. p e.0) table) ≡ true
        → (is_some (kind_in table w) ≡ true → list_all (λ e. p e.0) table ≡ true → p w ≡ true) → p w ≡ true
    by true f true g h k r = ap p ((bytes_eq-Decides w e.0).0 f) ∙ g
    by false f true g h k r = r h k
    by true f false g h k r = cc
    by false f false g h k r = cc

pub single_begins : (a : ℕ) → is_single a ≡ true → begins_symbol a ≡ true
single_begins a h = among (λ w. begins_symbol (get_or w 0 0)) (a ∷ []) singles h refl

-- the characters of a longer symbol: the first begins it, and none is U+0000
pub double_begins : (a b : ℕ) → is_double a b ≡ true → (begins_symbol a && not (b == 0)) ≡ true
double_begins a b h = among (λ w. begins_symbol (get_or w 0 0) && not (get_or w 1 0 == 0)) (a ∷ b ∷ []) doubles h refl

pub triple_begins : (a b c : ℕ) → is_triple a b c ≡ true → (begins_symbol a && not (b == 0) && not (c == 0)) ≡ true
triple_begins a b c h = among (λ w. begins_symbol (get_or w 0 0) && not (get_or w 1 0 == 0) && not (get_or w 2 0 == 0)) (a ∷ b ∷ c ∷ []) triples h refl

no : (b : Bool) → not b ≡ true → b ≡ false
no true h = cc
no false h = refl

-- the tests that such a character fails
pub symbol_begins_no_name : (c : ℕ) → begins_symbol c ≡ true → begins_name c ≡ false
symbol_begins_no_name c h = no_name c (grind (arith, nat_tests)) (grind (arith, nat_tests))

pub symbol_begins_no_digit : (c : ℕ) → begins_symbol c ≡ true → is_ascii_digit c ≡ false
symbol_begins_no_digit c h = grind (arith, nat_tests)

pub symbol_begins_no_quote : (c : ℕ) → begins_symbol c ≡ true → is_quote c ≡ false
symbol_begins_no_quote c h = grind (arith, nat_tests)

front_of_three : (a b c : Bool) → (a && b && c) ≡ true → a ≡ true
front_of_three true b c h = refl
front_of_three false b c h = h

front_of_two : (a b : Bool) → (a && b) ≡ true → a ≡ true
front_of_two true b h = refl
front_of_two false b h = h

-- the first character of a symbol
pub symbol_first : (c : ℕ) (w : List ℕ) → is_symbol (c ∷ w) ≡ true → begins_symbol c ≡ true
symbol_first c [] h = single_begins c h
symbol_first c (a ∷ []) h = front_of_two (begins_symbol c) (not (a == 0)) (double_begins c a h)
symbol_first c (a ∷ b ∷ []) h = front_of_three (begins_symbol c) (not (a == 0)) (not (b == 0)) (triple_begins c a b h)
symbol_first c (a ∷ b ∷ d ∷ w) h = cc
