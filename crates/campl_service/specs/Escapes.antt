-- Escapes in the texts of scripts of version 2. A character is its code: 92 is \, 110 n, 114 r, 116 t, 117 u, 123 {, 125 }.
use Rattle.std.specs.Prelude.{ℕ, ◌+◌, ◌*◌, ◌==◌, ◌&&◌, Bool, nat_le, nat_lt, if◌then◌else◌, List, [], ◌∷◌, ◌++◌, length, Option, Some, None, option_map}
use Rattle.std.specs.List.{fold}
use Rattle.std.specs.Char.{digit_value}
use lib.Utf8.{scalar}

-- what a character behind a backslash stands for: \\ \n \r \t
abbrev pub short_escape : ℕ → Option ℕ
short_escape c =
    if c == 92 then Some 92
    else if c == 110 then Some 10
    else if c == 114 then Some 13
    else if c == 116 then Some 9
    else None

abbrev pub is_hex_digit : ℕ → Bool
is_hex_digit c = nat_lt (digit_value c) 16

abbrev pub hex_digit : ℕ → ℕ
hex_digit c = if is_hex_digit c then digit_value c else 0

-- the number that hexadecimal digits are
abbrev pub hex_value : List ℕ → ℕ
hex_value digits = fold (λ n d. n * 16 + hex_digit d) 0 digits

-- the character of a number, where it is a scalar value
abbrev pub character_of : ℕ → Option ℕ
character_of n = if scalar n then Some n else None

-- the character that one to six digits name
abbrev pub character_named : List ℕ → Option ℕ
character_named digits = if nat_le 1 (length digits) && nat_le (length digits) 6 then character_of (hex_value digits) else None

-- a character before those of the rest, where there are both
abbrev pub before : Option ℕ → Option (List ℕ) → Option (List ℕ)
before None rest = None
before (Some c) rest = option_map (λ cs. c ∷ cs) rest

-- The characters that a text stands for; None where a backslash begins no escape.
abbrev mutual
  pub unescaped : List ℕ → Option (List ℕ)
  unescaped [] = Some []
  unescaped (c ∷ cs) = if c == 92 then escaped cs else before (Some c) (unescaped cs)

  -- behind a backslash there is a letter, or u with a number in braces
  pub escaped : List ℕ → Option (List ℕ)
  escaped [] = None
  escaped (c ∷ cs) = if c == 117 then braced cs else before (short_escape c) (unescaped cs)

  pub braced : List ℕ → Option (List ℕ)
  braced [] = None
  braced (c ∷ cs) = if c == 123 then numbered [] cs else None

  -- behind these digits there are more, or the brace
  pub numbered : List ℕ → List ℕ → Option (List ℕ)
  numbered digits [] = None
  numbered digits (c ∷ cs) =
      if c == 125 then before (character_named digits) (unescaped cs)
      else if is_hex_digit c then numbered (digits ++ c ∷ []) cs
      else None
