-- Characters of what is written.
use Rattle.std.proofs.Common.{◌≡◌, refl, sym, subst, inl, inr, ℕ, zero, suc, ◌+◌, ◌/◌, ◌%◌, ◌<◌, ◌^◌, ℤ, pos, negsuc, Bool, true, false, List, [], ◌∷◌, ◌++◌, if◌then◌else◌, nat_lt, arith, ap, ◌∙◌}
use Rattle.std.proofs.lemmas.Bool.{cases_lt}
use Rattle.std.proofs.lemmas.Fmt.{IsAscii-decimal_wide, hex_one_digit, hex_two_digits}
use Rattle.std.proofs.lemmas.Str.{chars-IsAscii, chars-nil, chars-append, IsAscii-append, IsUtf8-encode, chars_from_encodes, encodes-chars, IsUtf8-string_bytes}
use Rattle.std.specs.Char.{IsScalar}
use Rattle.std.specs.Fmt.{digits, digit_glyph, decimal, signed_decimal}
use Rattle.std.specs.Prelude.{codes, encode_utf8}
use Rattle.std.specs.Str.{IsAscii, IsUtf8, chars}
use mir.Syntax.{w128}
use mir.Val.{SFits}

append-nil : (xs : List ℕ) → xs ++ [] ≡ xs
append-nil [] = refl
append-nil (x ∷ xs) = ap (λ l. x ∷ l) (append-nil xs)

-- a text with a character more
pub chars-push : (text : List ℕ) (c : ℕ) → IsUtf8 text → IsScalar c → chars (text ++ encode_utf8 c) ≡ chars text ++ c ∷ []
chars-push text c utf8 scalar =
    let one : chars (encode_utf8 c) ≡ c ∷ [] = sym (chars_from_encodes (c ∷ []) (encode_utf8 c) (IsUtf8-encode c scalar) (append-nil (encode_utf8 c))) in
    chars-append text (encode_utf8 c) utf8 ∙ ap (λ x. chars text ++ x) one

-- numbers

pub chars-decimal : (n : ℕ) → n < 2 ^ 64 → chars (decimal n) ≡ decimal n
chars-decimal n h = chars-IsAscii (decimal n) (IsAscii-decimal_wide n (omega (arith, h)))

signed-ascii : (z : ℤ) → SFits w128 z → IsAscii (signed_decimal z)
signed-ascii (pos n) h i = IsAscii-decimal_wide n (let f = h.sfits in omega (arith, f)) i
signed-ascii (negsuc n) h zero = omega arith
signed-ascii (negsuc n) h (suc i) = IsAscii-decimal_wide (suc n) (let f = h.sfits in omega (arith, f)) i

pub chars-signed : (z : ℤ) → SFits w128 z → chars (signed_decimal z) ≡ signed_decimal z
chars-signed z h = chars-IsAscii (signed_decimal z) (signed-ascii z h)

-- escapes by number

one-ascii : (x : ℕ) → x < 128 → IsAscii (x ∷ [])
one-ascii x h zero = h
one-ascii x h (suc i) = omega arith

glyph-ascii : (d : ℕ) → d < 16 → digit_glyph false d < 128
glyph-ascii d h = go (nat_lt d 10)
  where
    go : (b : Bool) → (if b then 48 + d else (if false then 55 + d else 87 + d)) < 128
    go true = omega arith
    go false = omega arith

hex-ascii : (n : ℕ) → n < 256 → IsAscii (digits 16 false n)
hex-ascii n h =
    elim (cases_lt n 16) [
      | inl small ↦ subst IsAscii (sym (hex_one_digit false n small)) (one-ascii (digit_glyph false n) (glyph-ascii n small))
      | inr large ↦
          subst IsAscii (sym (hex_two_digits false n large h))
          (IsAscii-append (digit_glyph false (n / 16) ∷ []) (digit_glyph false (n % 16) ∷ []) (one-ascii _ (glyph-ascii (n / 16) (grind arith))) (one-ascii _ (glyph-ascii (n % 16) (grind arith))))
    ]

opening-ascii : IsAscii (codes "\\u{")
opening-ascii zero = omega arith
opening-ascii (suc zero) = omega arith
opening-ascii (suc (suc zero)) = omega arith
opening-ascii (suc (suc (suc i))) = omega arith

closing-ascii : IsAscii (codes "}")
closing-ascii zero = omega arith
closing-ascii (suc i) = omega arith

pub chars-code : (n : ℕ) → n < 256 → chars (codes "\\u{" ++ (digits 16 false n ++ codes "}")) ≡ codes "\\u{" ++ (digits 16 false n ++ codes "}")
chars-code n h = chars-IsAscii _ (IsAscii-append (codes "\\u{") (digits 16 false n ++ codes "}") opening-ascii (IsAscii-append (digits 16 false n) (codes "}") (hex-ascii n h) closing-ascii))

pub ruleset characters = (chars-nil, chars-append, chars-push, chars-decimal, chars-signed, chars-code, encodes-chars, IsUtf8-string_bytes)
