-- How the characters of a text are shown. A character is its code: 92 is \, 10 LF, 13 CR, 9 Tab, 127 delete.
use Rattle.std.specs.Prelude.{ℕ, Bool, false, List, [], ◌∷◌, ◌++◌, codes, if◌then◌else◌, ◌==◌, ◌||◌, nat_lt, flat_map, encode_utf8_all}
use Rattle.std.specs.Fmt.{digits}

-- a backslash, and what has no picture
abbrev pub has_escape : ℕ → Bool
has_escape c = (c == 92) || nat_lt c 32 || (c == 127)

abbrev pub escape_of : ℕ → List ℕ
escape_of c =
    if c == 92 then codes "\\\\"
    else if c == 10 then codes "\\n"
    else if c == 13 then codes "\\r"
    else if c == 9 then codes "\\t"
    else codes "\\u{" ++ (digits 16 false c ++ codes "}")

-- a character as it is shown: its escape, or itself
abbrev pub shown_character : ℕ → List ℕ
shown_character c = if has_escape c then escape_of c else c ∷ []

abbrev pub shown_text : List ℕ → List ℕ
shown_text characters = flat_map shown_character characters

-- a shown text in UTF-8
abbrev pub shown_bytes : List ℕ → List ℕ
shown_bytes characters = encode_utf8_all (shown_text characters)

-- a byte of a text in UTF-8 as it is shown
abbrev pub shown_byte : ℕ → List ℕ
shown_byte b = if has_escape b then encode_utf8_all (escape_of b) else b ∷ []
