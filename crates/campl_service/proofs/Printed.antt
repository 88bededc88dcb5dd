-- What is printed of a text is UTF-8.
use Rattle.std.proofs.Common.{◌≡◌, ap, sym, subst, ℕ, ◌<◌, ◌≤◌, ◌/◌, ◌%◌, Bool, true, false, List, [], ◌∷◌, ◌++◌, arith, refl}
use Rattle.std.specs.Prelude.{codes, chars, encode_utf8_all, if◌then◌else◌, nat_lt, ◌==◌, ◌&&◌}
use Rattle.std.specs.Str.{IsUtf8, IsAscii}
use Rattle.std.specs.Fmt.{digits, digit_glyph}
use Rattle.std.proofs.lemmas.Fmt.{hex_one_digit, hex_two_digits}
use Rattle.std.proofs.lemmas.Str.{IsUtf8-append, IsUtf8-nil, IsUtf8-from_ascii, encodes-IsAscii, encodes-append, scalars-chars, IsAscii-append}
use Rattle.std.proofs.lemmas.Str.Ascii.{IsAscii-nil, IsAscii-cons}
use Rattle.std.proofs.lemmas.Bool.{and_parts}
use Rattle.std.proofs.lemmas.Bool.Decides.{nat_tests}
use lib.Utf8.{scalar, scalars}
use Rattle.campl_value.specs.Shown.{has_escape, escape_of, shown_character, shown_text, shown_bytes}

either_ascii : (b : Bool) (x y : List ℕ) → IsAscii x → IsAscii y → IsAscii (if b then x else y)
either_ascii true x y h k = h
either_ascii false x y h k = k

two_ascii : (c : ℕ) → c < 128 → IsAscii (92 ∷ c ∷ [])
two_ascii c h = IsAscii-cons 92 (c ∷ []) (omega arith) (IsAscii-cons c [] h IsAscii-nil)

glyph_ascii : (d : ℕ) → d < 16 → digit_glyph false d < 128
glyph_ascii d h = grind (arith, nat_tests)

digits_ascii : (n : ℕ) → n < 256 → IsAscii (digits 16 false n)
digits_ascii n h = by_test (nat_lt n 16) refl
  where
    by_test : (b : Bool) → nat_lt n 16 ≡ b → IsAscii (digits 16 false n)
    by_test true e =
        let low : n < 16 = grind (arith, nat_tests) in
        rw (hex_one_digit false n low) (IsAscii-cons (digit_glyph false n) [] (glyph_ascii n low) IsAscii-nil)
    by_test false e =
        let high : 16 ≤ n = grind (arith, nat_tests) in
        rw (hex_two_digits false n high h) (IsAscii-cons (digit_glyph false (n / 16)) (digit_glyph false (n % 16) ∷ []) (glyph_ascii (n / 16) (omega arith)) (IsAscii-cons (digit_glyph false (n % 16)) [] (glyph_ascii (n % 16) (omega arith)) IsAscii-nil))

escape_ascii : (c : ℕ) → c < 128 → IsAscii (escape_of c)
escape_ascii c h =
    either_ascii (c == 92) (codes "\\\\") _ (two_ascii 92 (omega arith))
    (either_ascii (c == 10) (codes "\\n") _ (two_ascii 110 (omega arith))
    (either_ascii (c == 13) (codes "\\r") _ (two_ascii 114 (omega arith))
    (either_ascii (c == 9) (codes "\\t") _ (two_ascii 116 (omega arith))
    (IsAscii-cons 92 (117 ∷ 123 ∷ (digits 16 false c ++ codes "}")) (omega arith) (IsAscii-cons 117 (123 ∷ (digits 16 false c ++ codes "}")) (omega arith) (IsAscii-cons 123 (digits 16 false c ++ codes "}") (omega arith)
    (IsAscii-append (digits 16 false c) (codes "}") (digits_ascii c (omega (arith, h))) (IsAscii-cons 125 [] (omega arith) IsAscii-nil))))))))

has_escape_low : (c : ℕ) → has_escape c ≡ true → c < 128
has_escape_low c h = grind (arith, nat_tests)

one_utf8 : (c : ℕ) → scalar c ≡ true → IsUtf8 (encode_utf8_all (shown_character c))
one_utf8 c s = by_test (has_escape c) refl
  where
    by_test : (b : Bool) → has_escape c ≡ b → IsUtf8 (encode_utf8_all (if b then escape_of c else c ∷ []))
    by_test true e =
        let ascii : IsAscii (escape_of c) = escape_ascii c (has_escape_low c e) in
        rw (encodes-IsAscii (escape_of c) ascii) (IsUtf8-from_ascii (escape_of c) ascii)
    by_test false e = (c ∷ [], (ap (λ t. t && true) s, refl))

all_utf8 : (cs : List ℕ) → scalars cs ≡ true → IsUtf8 (shown_bytes cs)
all_utf8 [] h = IsUtf8-nil
all_utf8 (c ∷ cs) h =
    subst IsUtf8 (sym (encodes-append (shown_character c) (shown_text cs)))
    (IsUtf8-append (encode_utf8_all (shown_character c)) (shown_bytes cs) (one_utf8 c (and_parts (scalar c) (scalars cs) h).0) (all_utf8 cs (and_parts (scalar c) (scalars cs) h).1))

-- what is printed of a text is UTF-8
pub shown_is_utf8 : (bs : List ℕ) → IsUtf8 bs → IsUtf8 (shown_bytes (chars bs))
shown_is_utf8 bs h = all_utf8 (chars bs) (scalars-chars bs h)
