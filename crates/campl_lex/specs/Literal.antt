-- How characters are spelled within literals. A character is its code: 9 is Tab, 10 LF, 34 ", 39 ', 92 \, 117 u, 123 {, 125 }.
use Rattle.std.specs.Prelude.{◌≡◌, ℕ, ◌+◌, ◌*◌, ◌≤◌, Bool, true, not, ◌||◌, ◌==◌, nat_lt, cond, List, [], ◌∷◌, ◌++◌, length, Option, Some, None}
use Rattle.std.specs.List.{list_all, fold}
use Rattle.std.specs.Char.{digit_value, IsScalar}

-- a character that stands for itself in a literal of this quote
abbrev pub is_plain : ℕ → ℕ → Bool
is_plain quote c = not (c == 9 || c == 10 || c == quote || c == 92)

-- what a character behind a backslash stands for: \n \r \t \\ \" \'
abbrev pub short_escape : ℕ → Option ℕ
short_escape c =
    cond (c == 110) (Some 10) (cond (c == 114) (Some 13) (cond (c == 116) (Some 9) (cond (c == 92) (Some 92) (cond (c == 34) (Some 34) (cond (c == 39) (Some 39) None)))))

abbrev pub is_hex_digit : ℕ → Bool
is_hex_digit c = nat_lt (digit_value c) 16

abbrev pub hex_digit : ℕ → ℕ
hex_digit c = cond (is_hex_digit c) (digit_value c) 0

-- the number that hexadecimal digits are
abbrev pub hex_value : List ℕ → ℕ
hex_value h = fold (λ n d. n * 16 + hex_digit d) 0 h

-- what stands behind the backslash of an escape, and the character that it stands for
pub data IsEscape : List ℕ → ℕ → Type 0 where
  short : (x c : ℕ) → short_escape x ≡ Some c → IsEscape (x ∷ []) c
  unicode : (h : List ℕ) → list_all is_hex_digit h ≡ true → 1 ≤ length h → length h ≤ 6 → IsScalar (hex_value h) → IsEscape (117 ∷ 123 ∷ (h ++ 125 ∷ [])) (hex_value h)

-- what stands between the quotes of a literal, and the characters that it stands for
pub data Spells (quote : ℕ) : List ℕ → List ℕ → Type 0 where
  nothing : Spells quote [] []
  plain : (c : ℕ) {w cs : List ℕ} → is_plain quote c ≡ true → Spells quote w cs → Spells quote (c ∷ w) (c ∷ cs)
  escape : (e : List ℕ) (c : ℕ) {w cs : List ℕ} → IsEscape e c → Spells quote w cs → Spells quote (92 ∷ (e ++ w)) (c ∷ cs)
