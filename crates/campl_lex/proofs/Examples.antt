-- Worked values of the definitions.
use Rattle.std.proofs.Common.{◌≡◌, ℕ, ◌+◌, true, false, [], ◌∷◌, replicate, Some, None, Ok, Err, refl, codes}
use Rattle.campl_lex.specs.declared.token.TokenKind.TheVariants as kind
use Rattle.campl_lex.specs.declared.token.Token.{Token}
use Rattle.campl_lex.specs.declared.fault.LexFault.TheVariants.{BadColumn, NumberTooLarge, NameTooLong, TextTooLong}
use Rattle.campl_lex.specs.declared.literal.Body.{Body}
use Rattle.campl_lex.specs.declared.literal.Stop.TheVariants as stop
use Rattle.campl_lex.specs.Spot.{place_past, first_place, bytes}
use Rattle.campl_lex.specs.Spelling.{number_of, reserved, name_kind, symbol_kind, kind_of}
use Rattle.campl_lex.specs.Kinds.{same}
use Rattle.campl_lex.specs.Literal.{hex_value}
use Rattle.campl_lex.specs.Meaning.{escape, unescaped}
use Rattle.campl_lex.specs.Tokens.{begins_comment, is_white}
use Rattle.campl_lex.specs.Reading.{symbol_len, escape_len, scan, name_piece, number_piece, closed_literal}
use Rattle.campl_lex.specs.Layout.{laid, laid_out, inserted, is_enclosed}

number : number_of (codes "0042") ≡ 42
number = refl

hexadecimal : hex_value (codes "10FFFF") ≡ 1114111
hexadecimal = refl

symbols : (symbol_len 124 (codes "=|=") ≡ 3) × (symbol_len 40 (codes "*") ≡ 1) × (symbol_len 45 (codes ">-") ≡ 2) × (symbol_len 38 (codes "x") ≡ 0)
symbols = (refl, refl, refl, refl)

comment : (begins_comment (codes "---") ≡ true) × (begins_comment (codes "->") ≡ false)
comment = (refl, refl)

-- CR is white space before LF alone
white : (is_white 13 (10 ∷ []) ≡ true) × (is_white 13 (codes "x") ≡ false)
white = (refl, refl)

words : (name_kind (codes "where") ≡ kind.Where) × (name_kind (codes "wher") ≡ kind.Lower) × (name_kind (codes "TopBot") ≡ kind.TopBot) × (name_kind (codes "_") ≡ kind.Wildcard)
unfolding reserved
words = (refl, refl, refl, refl)

kinds : (kind_of (codes "\"x\"") ≡ kind.Text) × (kind_of (codes "'x'") ≡ kind.Character) × (kind_of (codes "12") ≡ kind.Number) × (symbol_kind (codes "(*)") ≡ kind.Tensor) × (symbol_kind (codes "=") ≡ kind.SingleEquals)
kinds = (refl, refl, refl, refl, refl)

-- é takes two bytes and one column
places : (place_past first_place (120 ∷ 10 ∷ 233 ∷ 120 ∷ []) ≡ record { line = 2; column = 3 }) × (bytes (233 ∷ 120 ∷ []) ≡ 3)
places = (refl, refl)

escapes : (escape_len (codes "nx") ≡ 1) × (escape_len (codes "u{41}x") ≡ 5) × (escape_len (codes "u{D800}") ≡ 0) × (escape_len (codes "u{}") ≡ 0) × (escape_len (codes "u{1234567}") ≡ 0)
escapes = (refl, refl, refl, refl, refl)

-- what escapes stand for
escaped_are : (escape (codes "nx") ≡ Some (10, 1)) × (escape (codes "u{e9}x") ≡ Some (233, 5)) × (escape (codes "q") ≡ None) × (unescaped 0 (codes "a\\u{41}\\qb") ≡ codes "aA\\qb")
escaped_are = (refl, refl, refl, refl)

-- a\"b" has three characters in four
literal : scan 34 0 (97 ∷ 92 ∷ 34 ∷ 98 ∷ 34 ∷ []) ≡ record { stop = stop.Quote; length = 4; count = 3 }
literal = refl

-- a name of 64 characters, and one of 65
names :
    (name_piece first_place (replicate 64 97) ≡ Ok (record { kind = Some kind.Lower; length = 64 }))
    × (name_piece first_place (replicate 65 97) ≡ Err (NameTooLong first_place))
unfolding reserved
names = (refl, refl)

-- the greatest number, and one more
numbers :
    (number_piece first_place (codes "9223372036854775807") ≡ Ok (record { kind = Some kind.Number; length = 19 }))
    × (number_piece first_place (codes "9223372036854775808") ≡ Err (NumberTooLarge first_place))
numbers = (refl, refl)

-- a literal that stands for so many characters, and takes as many
abbrev of_length : ℕ → Body
of_length n = record { stop = stop.Quote; length = n; count = n }

-- a text of 1,024 characters, and one of 1,025
texts :
    (closed_literal first_place 34 (of_length 1024) ≡ Ok (record { kind = Some kind.Text; length = 1026 }))
    × (closed_literal first_place 34 (of_length 1025) ≡ Err (TextTooLong first_place))
texts = (refl, refl)

-- the empty source, whose end is at 1:1
empty : laid_out [] (record { line = 1; column = 1 }) [] ≡ Ok (inserted kind.LeftBrace 0 (record { line = 1; column = 1 }) ∷ inserted kind.RightBrace 0 (record { line = 1; column = 1 }) ∷ [])
unfolding laid
empty = refl

-- `do` as a source's last token
open_at_end :
    laid_out (codes "do") (record { line = 1; column = 3 }) (record { kind = kind.Do; start = 0; stop = 2; place = record { line = 1; column = 1 } } ∷ [])
    ≡ Err (BadColumn (record { line = 1; column = 3 }))
unfolding laid
open_at_end = refl

-- a name of one letter at a byte, a line and a column
abbrev letter : ℕ → ℕ → ℕ → Token
letter at line column = record { kind = kind.Lower; start = at; stop = at + 1; place = record { line = line; column = column } }

-- a, and b below it: a line of its own
two_lines :
    laid_out (codes "a\nb") (record { line = 2; column = 2 }) (letter 0 1 1 ∷ letter 2 2 1 ∷ [])
    ≡ Ok
    (inserted kind.LeftBrace 0 first_place
    ∷ letter 0 1 1
    ∷ inserted kind.Semicolon 2 (record { line = 2; column = 1 })
    ∷ letter 2 2 1
    ∷ inserted kind.RightBrace 3 (record { line = 2; column = 2 })
    ∷ [])
unfolding laid
two_lines = refl

braces : is_enclosed 1 (inserted kind.LeftBrace 0 first_place ∷ inserted kind.RightBrace 0 first_place ∷ inserted kind.RightBrace 0 first_place ∷ []) ≡ true
unfolding same
braces = refl
