-- What the characters of a literal stand for, as functions. A character is its code: 92 is \, 117 u, 123 {, 125 }.
use Rattle.std.specs.Prelude.{◌≡◌, ℕ, zero, suc, ◌+◌, ◌-◌, ◌==◌, ◌&&◌, nat_le, if◌then◌else◌, List, [], ◌∷◌, length, take, drop, slice_index_or}
use Rattle.std.specs.Prelude.{Option, Some, None, MatchOption}
use Rattle.std.specs.List.{prefix_len}
use lib.Utf8.{scalar}
use Rattle.campl_lex.specs.Literal.{short_escape, is_hex_digit, hex_value}

-- an escape of n digits in braces, told from behind its `{`: its character, and how many characters spell it behind the backslash
abbrev pub braced : ℕ → List ℕ → Option (ℕ × ℕ)
braced n cs = if nat_le 1 n && nat_le n 6 && slice_index_or cs n 0 == 125 && scalar (hex_value (take n cs)) then Some (hex_value (take n cs), n + 3) else None

-- the same from behind its `u`
abbrev pub unicode : List ℕ → Option (ℕ × ℕ)
unicode [] = None
unicode (c ∷ cs) = if c == 123 then braced (prefix_len is_hex_digit cs) cs else None

-- an escape of one letter, or else of digits
abbrev pub short_or : Option ℕ → Option (ℕ × ℕ) → Option (ℕ × ℕ)
short_or (Some x) other = Some (x, 1)
short_or None other = other

-- the escape that begins behind a backslash, if one does
abbrev pub escape : List ℕ → Option (ℕ × ℕ)
escape [] = None
escape (c ∷ cs) = short_or (short_escape c) (if c == 117 then unicode cs else None)

-- a character, or the one of its escape, and then the rest, some of which is to skip
abbrev pub stands_for : ℕ → Option (ℕ × ℕ) → (ℕ → List ℕ) → List ℕ
stands_for c None rest = c ∷ rest 0
stands_for c (Some e) rest = e.0 ∷ rest e.1

-- the characters that those of a literal stand for, with some still to skip
abbrev pub unescaped : ℕ → List ℕ → List ℕ
unescaped skip [] = []
unescaped (suc n) (c ∷ cs) = unescaped n cs
unescaped zero (c ∷ cs) = stands_for c (if c == 92 then escape cs else None) (λ n. unescaped n cs)

-- what stands between the quotes
abbrev pub between : List ℕ → List ℕ
between cs = take (length cs - 2) (drop 1 cs)

-- What a function that reads an escape of the characters `cs` answers, where that begins `front` characters before them: that there is
-- none; or its character, how many characters spell it, and what is left behind them.
abbrev pub Finds : {F : Type 0} → (F → List ℕ) → ℕ → Option (ℕ × ℕ) → List ℕ → Option (ℕ × ℕ × F) → Type 0
Finds letters front wanted cs result = MatchOption result (wanted ≡ None) (λ p. (n : ℕ) × (p.1 ≡ n + front) × (wanted ≡ Some (p.0, n + front)) × (letters p.2 ≡ drop n cs))
