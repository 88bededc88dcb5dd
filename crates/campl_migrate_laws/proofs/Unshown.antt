-- What is printed of a text is read back as the text.
use Rattle.std.proofs.Common.{◌≡◌, refl, ap, ◌∙◌, ℕ, ◌+◌, ◌*◌, ◌/◌, ◌%◌, ◌<◌, ◌≤◌, arith, Bool, true, false, List, [], ◌∷◌, ◌++◌, length, Some, length-append}
use Rattle.std.specs.Prelude.{◌==◌, nat_lt, if◌then◌else◌, codes}
use Rattle.std.specs.Fmt.{digits, digit_glyph}
use Rattle.std.proofs.lemmas.Fmt.{hex_one_digit, hex_two_digits}
use Rattle.std.proofs.lemmas.Bool.{and_from, and_parts}
use Rattle.std.proofs.lemmas.Bool.Decides.{nat_tests}
use lib.Utf8.{scalar}
use Rattle.campl_value.specs.Shown.{has_escape, escape_of, shown_character, shown_text}
use Rattle.campl_service.specs.Escapes.{unescaped, before, numbered, is_hex_digit, hex_digit, character_of}
use Rattle.campl_migrate_laws.proofs.Pieces.{printed, all_printed}

-- ---- digits

no_brace : (d : ℕ) → d < 16 → (digit_glyph false d == 125) ≡ false
no_brace d h = grind (arith, nat_tests)

is_hex : (d : ℕ) → d < 16 → is_hex_digit (digit_glyph false d) ≡ true
is_hex d h = grind (arith, nat_tests)

its_value : (d : ℕ) → d < 16 → hex_digit (digit_glyph false d) ≡ d
its_value d h = grind (arith, nat_tests)

glyph_printed : (d : ℕ) → d < 16 → printed (digit_glyph false d) ≡ true
glyph_printed d h = grind (arith, nat_tests)

low_character : (c : ℕ) → c < 128 → character_of c ≡ Some c
low_character c h = rw low refl
  where
    low : scalar c ≡ true
    low = grind (arith, nat_tests)

-- a digit is read behind those before it
read_digit : (ds : List ℕ) (d : ℕ) (rest : List ℕ) → d < 16 → numbered ds (digit_glyph false d ∷ rest) ≡ numbered (ds ++ digit_glyph false d ∷ []) rest
read_digit ds d rest h = rw (no_brace d h, is_hex d h) refl

-- what is behind `\u{`
read_number : (c : ℕ) (rest : List ℕ) → c < 128 → numbered [] ((digits 16 false c ++ codes "}") ++ rest) ≡ before (Some c) (unescaped rest)
read_number c rest h = by_test (nat_lt c 16) refl
  where
    named : (n : ℕ) → n ≡ c → before (character_of n) (unescaped rest) ≡ before (Some c) (unescaped rest)
    named n e = ap (λ o. before o (unescaped rest)) (ap character_of e ∙ low_character c h)

    by_test : (b : Bool) → nat_lt c 16 ≡ b → numbered [] ((digits 16 false c ++ codes "}") ++ rest) ≡ before (Some c) (unescaped rest)
    by_test true e =
        let low : c < 16 = grind (arith, nat_tests) in
        let value : 0 * 16 + hex_digit (digit_glyph false c) ≡ c = omega (arith, its_value c low) in
        rw (hex_one_digit false c low) (read_digit [] c (125 ∷ rest) low ∙ named (0 * 16 + hex_digit (digit_glyph false c)) value)
    by_test false e =
        let high : 16 ≤ c = grind (arith, nat_tests) in
        let one : c / 16 < 16 = omega arith in
        let two : c % 16 < 16 = omega arith in
        let whole : ℕ = (0 * 16 + hex_digit (digit_glyph false (c / 16))) * 16 + hex_digit (digit_glyph false (c % 16)) in
        let value : (0 * 16 + hex_digit (digit_glyph false (c / 16))) * 16 + hex_digit (digit_glyph false (c % 16)) ≡ c = omega (arith, its_value (c / 16) one, its_value (c % 16) two) in
        rw (hex_two_digits false c high (omega arith))
        (read_digit [] (c / 16) (digit_glyph false (c % 16) ∷ 125 ∷ rest) one ∙ (read_digit (digit_glyph false (c / 16) ∷ []) (c % 16) (125 ∷ rest) two ∙ named whole value))

-- ---- one character

equal_if : (c k : ℕ) → (c == k) ≡ true → k ≡ c
equal_if c k h = grind (arith, nat_tests)

read_either : (b : Bool) (c k : ℕ) (x y rest : List ℕ) → (c == k) ≡ b → unescaped (x ++ rest) ≡ before (Some k) (unescaped rest) → unescaped (y ++ rest) ≡ before (Some c) (unescaped rest)
    → unescaped ((if b then x else y) ++ rest) ≡ before (Some c) (unescaped rest)
read_either true c k x y rest e one other = one ∙ ap (λ (n : ℕ). before (Some n) (unescaped rest)) (equal_if c k e)
read_either false c k x y rest e one other = other

read_escape : (c : ℕ) (rest : List ℕ) → c < 128 → unescaped (escape_of c ++ rest) ≡ before (Some c) (unescaped rest)
read_escape c rest h =
    read_either (c == 92) c 92 (codes "\\\\") _ rest refl refl
    (read_either (c == 10) c 10 (codes "\\n") _ rest refl refl
    (read_either (c == 13) c 13 (codes "\\r") _ rest refl refl
    (read_either (c == 9) c 9 (codes "\\t") _ rest refl refl (read_number c rest h))))

has_escape_low : (c : ℕ) → has_escape c ≡ true → c < 128
has_escape_low c h = grind (arith, nat_tests)

no_backslash : (c : ℕ) → has_escape c ≡ false → (c == 92) ≡ false
no_backslash c h = grind (arith, nat_tests)

read_one : (c : ℕ) (rest : List ℕ) → unescaped (shown_character c ++ rest) ≡ before (Some c) (unescaped rest)
read_one c rest = by_test (has_escape c) refl
  where
    by_test : (b : Bool) → has_escape c ≡ b → unescaped ((if b then escape_of c else c ∷ []) ++ rest) ≡ before (Some c) (unescaped rest)
    by_test true e = read_escape c rest (has_escape_low c e)
    by_test false e = rw (no_backslash c e) refl

-- a text is read back
pub read_back : (cs : List ℕ) → unescaped (shown_text cs) ≡ Some cs
read_back [] = refl
read_back (c ∷ cs) = read_one c (shown_text cs) ∙ ap (before (Some c)) (read_back cs)

-- ---- what an escape is made of

either_printed : (b : Bool) (x y : List ℕ) → all_printed x ≡ true → all_printed y ≡ true → all_printed (if b then x else y) ≡ true
either_printed true x y h k = h
either_printed false x y h k = k

number_printed : (c : ℕ) → c < 128 → all_printed (digits 16 false c ++ codes "}") ≡ true
number_printed c h = by_test (nat_lt c 16) refl
  where
    by_test : (b : Bool) → nat_lt c 16 ≡ b → all_printed (digits 16 false c ++ codes "}") ≡ true
    by_test true e =
        let low : c < 16 = grind (arith, nat_tests) in
        rw (hex_one_digit false c low, glyph_printed c low) refl
    by_test false e =
        let high : 16 ≤ c = grind (arith, nat_tests) in
        rw (hex_two_digits false c high (omega arith), glyph_printed (c / 16) (omega arith), glyph_printed (c % 16) (omega arith)) refl

escape_printed : (c : ℕ) → c < 128 → all_printed (escape_of c) ≡ true
escape_printed c h =
    either_printed (c == 92) (codes "\\\\") _ refl
    (either_printed (c == 10) (codes "\\n") _ refl (either_printed (c == 13) (codes "\\r") _ refl (either_printed (c == 9) (codes "\\t") _ refl (number_printed c h))))

no_escape_printed : (c : ℕ) → has_escape c ≡ false → printed c ≡ true
no_escape_printed c h = grind (arith, nat_tests)

one_printed : (c : ℕ) → all_printed (shown_character c) ≡ true
one_printed c = by_test (has_escape c) refl
  where
    by_test : (b : Bool) → has_escape c ≡ b → all_printed (if b then escape_of c else c ∷ []) ≡ true
    by_test true e = escape_printed c (has_escape_low c e)
    by_test false e = and_from (printed c) true (no_escape_printed c e) refl

pub printed_append : (xs ys : List ℕ) → all_printed xs ≡ true → all_printed ys ≡ true → all_printed (xs ++ ys) ≡ true
printed_append [] ys h k = k
printed_append (x ∷ xs) ys h k = and_from (printed x) (all_printed (xs ++ ys)) (and_parts (printed x) (all_printed xs) h).0 (printed_append xs ys (and_parts (printed x) (all_printed xs) h).1 k)

pub text_printed : (cs : List ℕ) → all_printed (shown_text cs) ≡ true
text_printed [] = refl
text_printed (c ∷ cs) = printed_append (shown_character c) (shown_text cs) (one_printed c) (text_printed cs)

-- ---- how long it is

either_short : (b : Bool) (x y : List ℕ) → length x ≤ 6 → length y ≤ 6 → length (if b then x else y) ≤ 6
either_short true x y h k = h
either_short false x y h k = k

number_short : (c : ℕ) → c < 128 → length (codes "\\u{" ++ (digits 16 false c ++ codes "}")) ≤ 6
number_short c h = by_test (nat_lt c 16) refl
  where
    by_test : (b : Bool) → nat_lt c 16 ≡ b → length (codes "\\u{" ++ (digits 16 false c ++ codes "}")) ≤ 6
    by_test true e =
        let low : c < 16 = grind (arith, nat_tests) in
        rw (hex_one_digit false c low) (omega arith)
    by_test false e =
        let high : 16 ≤ c = grind (arith, nat_tests) in
        rw (hex_two_digits false c high (omega arith)) (omega arith)

escape_short : (c : ℕ) → c < 128 → length (escape_of c) ≤ 6
escape_short c h =
    either_short (c == 92) (codes "\\\\") _ (omega arith)
    (either_short (c == 10) (codes "\\n") _ (omega arith) (either_short (c == 13) (codes "\\r") _ (omega arith) (either_short (c == 9) (codes "\\t") _ (omega arith) (number_short c h))))

one_short : (c : ℕ) → length (shown_character c) ≤ 6
one_short c = by_test (has_escape c) refl
  where
    by_test : (b : Bool) → has_escape c ≡ b → length (if b then escape_of c else c ∷ []) ≤ 6
    by_test true e = escape_short c (has_escape_low c e)
    by_test false e = omega arith

pub text_short : (cs : List ℕ) → length (shown_text cs) ≤ 6 * length cs
text_short [] = omega arith
text_short (c ∷ cs) = omega (arith, length-append (shown_character c) (shown_text cs), one_short c, text_short cs)
