-- The first character of a spelling tells how it is spelled.
use Rattle.std.proofs.Common.{◌≡◌, ℕ, Bool, true, false, ◌&&◌, ◌==◌, eqb, List, [], ◌∷◌, ◌++◌, length, refl, sym, ap, ◌∙◌, arith, lit<}
use Rattle.std.specs.List.{list_all}
use Rattle.std.specs.Char.{is_ascii_digit}
use Rattle.std.proofs.lemmas.Bool.Decides.{nat_tests}
use Rattle.campl_lex.specs.Spelling.{begins_name, goes_on, is_name, is_number, is_symbol}
use Rattle.campl_lex.specs.Literal.{Spells}
use Rattle.campl_lex.specs.Tokens.{begins_with, is_quote, is_white, IsSpelling}
use Rattle.campl_lex.specs.Tokens as spelling
use Rattle.campl_lex.proofs.Classes.{no_name, digit_no_name, begins_symbol, symbol_first, symbol_begins_no_name, symbol_begins_no_digit}
use Rattle.campl_lex.proofs.Classes.{symbol_begins_no_quote}

pub first_of_two : (a b : Bool) → (a && b) ≡ true → a ≡ true
first_of_two true b h = refl
first_of_two false b h = h

pub name_first : (c : ℕ) (w : List ℕ) → is_name (c ∷ w) ≡ true → begins_name c ≡ true
name_first c w h = first_of_two (begins_name c) (list_all goes_on w) h

pub number_first : (c : ℕ) (w : List ℕ) → is_number (c ∷ w) ≡ true → is_ascii_digit c ≡ true
number_first c w h = first_of_two (is_ascii_digit c) (list_all is_ascii_digit w) h

pub quote_no_name : (c : ℕ) → is_quote c ≡ true → begins_name c ≡ false
quote_no_name c h = no_name c (grind (arith, nat_tests)) (grind (arith, nat_tests))

pub quote_no_digit : (c : ℕ) → is_quote c ≡ true → is_ascii_digit c ≡ false
quote_no_digit c h = grind (arith, nat_tests)

apart : {A : Type 0} (b : Bool) → b ≡ true → b ≡ false → A
apart b h k = let e : true ≡ false = sym h ∙ k in absurd (let f : ⊥ = cc in f)

pub some_spelled : IsSpelling [] → ⊥
some_spelled (spelling.name h) = cc
some_spelled (spelling.number h) = cc
some_spelled (spelling.symbol h) = cc

pub spelled_name : (c : ℕ) (w : List ℕ) → begins_name c ≡ true → IsSpelling (c ∷ w) → is_name (c ∷ w) ≡ true
spelled_name c w b (spelling.name h) = h
spelled_name c w b (spelling.number h) = apart (begins_name c) b (digit_no_name c (number_first c w h))
spelled_name c w b (spelling.symbol h) = apart (begins_name c) b (symbol_begins_no_name c (symbol_first c w h))
spelled_name c w b (spelling.text s) = apart (begins_name 34) b (quote_no_name 34 refl)
spelled_name c w b (spelling.character d s) = apart (begins_name 39) b (quote_no_name 39 refl)

pub spelled_number : (c : ℕ) (w : List ℕ) → is_ascii_digit c ≡ true → IsSpelling (c ∷ w) → is_number (c ∷ w) ≡ true
spelled_number c w b (spelling.name h) = apart (begins_name c) (name_first c w h) (digit_no_name c b)
spelled_number c w b (spelling.number h) = h
spelled_number c w b (spelling.symbol h) = apart (is_ascii_digit c) b (symbol_begins_no_digit c (symbol_first c w h))
spelled_number c w b (spelling.text s) = apart (is_ascii_digit 34) b refl
spelled_number c w b (spelling.character d s) = apart (is_ascii_digit 39) b refl

pub spelled_symbol : (c : ℕ) (w : List ℕ) → begins_name c ≡ false → is_ascii_digit c ≡ false → is_quote c ≡ false → IsSpelling (c ∷ w) → is_symbol (c ∷ w) ≡ true
spelled_symbol c w a b d (spelling.name h) = apart (begins_name c) (name_first c w h) a
spelled_symbol c w a b d (spelling.number h) = apart (is_ascii_digit c) (number_first c w h) b
spelled_symbol c w a b d (spelling.symbol h) = h
spelled_symbol c w a b d (spelling.text s) = apart (is_quote 34) refl d
spelled_symbol c w a b d (spelling.character e s) = apart (is_quote 39) refl d

-- a literal: what stands between its quotes, and one character alone in a character's
abbrev pub Quoted : ℕ → List ℕ → Type 0
Quoted q w = (b : List ℕ) × (cs : List ℕ) × (w ≡ b ++ q ∷ []) × Spells q b cs × (q ≡ 39 → length cs ≡ 1)

pub spelled_literal : (c : ℕ) (w : List ℕ) → is_quote c ≡ true → IsSpelling (c ∷ w) → Quoted c w
spelled_literal c w q (spelling.name h) = apart (begins_name c) (name_first c w h) (quote_no_name c q)
spelled_literal c w q (spelling.number h) = apart (is_ascii_digit c) (number_first c w h) (quote_no_digit c q)
spelled_literal c w q (spelling.symbol h) = apart (is_quote c) q (symbol_begins_no_quote c (symbol_first c w h))
spelled_literal c w q (spelling.text {w = b} {cs = cs} s) = (b, cs, refl, s, λ e. absurd (omega arith))
spelled_literal c w q (spelling.character {w = b} d s) = (b, d ∷ [], refl, s, λ e. refl)

pub differs : (p : ℕ → Bool) (c k : ℕ) → p c ≡ true → p k ≡ false → (c == k) ≡ false
differs p c k h e = by (eqb c k) refl
  where
    by : (b : Bool) → eqb c k ≡ b → b ≡ false
    by true f = let same : c ≡ k = grind (arith, nat_tests) in apart (p k) (ap p (sym same) ∙ h) e
    by false f = refl

white_from : (c : ℕ) (rest : List ℕ) → (c == 32) ≡ false → (c == 10) ≡ false → (c == 13) ≡ false → is_white c rest ≡ false
white_from c rest a b d = rw (a, b, d) refl

-- the first character of a spelling is no Tab and no white space
abbrev pub NoBlank : ℕ → Type 0
NoBlank c = ((c == 9) ≡ false) × ((rest : List ℕ) → is_white c rest ≡ false)

no_blank : (p : ℕ → Bool) (c : ℕ) → p c ≡ true → p 9 ≡ false → p 32 ≡ false → p 10 ≡ false → p 13 ≡ false → NoBlank c
no_blank p c h t s l r = (differs p c 9 h t, λ rest. white_from c rest (differs p c 32 h s) (differs p c 10 h l) (differs p c 13 h r))

pub spelled_no_blank : (c : ℕ) (w : List ℕ) → IsSpelling (c ∷ w) → NoBlank c
spelled_no_blank c w (spelling.name h) = no_blank begins_name c (name_first c w h) (no_name 9 (lit< tt) refl) (no_name 32 (lit< tt) refl) (no_name 10 (lit< tt) refl) (no_name 13 (lit< tt) refl)
spelled_no_blank c w (spelling.number h) = no_blank is_ascii_digit c (number_first c w h) refl refl refl refl
spelled_no_blank c w (spelling.symbol h) = no_blank begins_symbol c (symbol_first c w h) refl refl refl refl
spelled_no_blank c w (spelling.text s) = no_blank is_quote 34 refl refl refl refl refl
spelled_no_blank c w (spelling.character d s) = no_blank is_quote 39 refl refl refl refl refl
