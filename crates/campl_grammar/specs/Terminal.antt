-- Terminals: tokens as the grammar sees them, each a plain value with its text.
use Rattle.std.specs.Prelude.{ℕ, ◌+◌, ◌-◌, ◌*◌, min, List, [], ◌∷◌, chars, ℤ, pos}
use Rattle.std.specs.List.{fold}
use Rattle.campl_tree.specs.declared.place.Place.{Place}
use Rattle.campl_tree.specs.declared.place.Ident.{Ident}
use Rattle.campl_lex.specs.Kinds.{same}
use Rattle.campl_lex.specs.Limits.{greatest_number}
use Rattle.campl_lex.specs.Meaning.{unescaped, between}
use Rattle.campl_gram.specs.Grammar.{Terminals}
use Rattle.campl_gram.specs.OneKind.{by_kind}
use Rattle.campl_lex.specs.declared.token.TokenKind.{TokenKind}

-- a terminal: its kind, the bytes of its text, and the place of its first character
pub record Terminal : Type 0 where
  pub kind : TokenKind
  pub text : List ℕ
  pub place : Place

-- the place of no terminals
abbrev pub nowhere : Place
nowhere = record { line = 0; column = 0 }

-- of which kind a terminal is, and where it stands
unfoldable pub terminals : Terminals Terminal TokenKind Place
terminals = by_kind same (λ w. w.kind) (λ w. w.place) nowhere

-- ---- what a terminal's text says

-- the name that a terminal spells
abbrev pub name_of : Terminal → List ℕ
name_of w = chars w.text

-- the same with its place
abbrev pub ident_of : Terminal → Ident
ident_of w = record { place = w.place; name = name_of w }

-- the number that digits are, which is never above the greatest
unfoldable pub digits : List ℕ → ℕ
digits w = fold (λ n d. min (n * 10 + (d - 48)) greatest_number) 0 w

abbrev pub number_of : Terminal → ℤ
number_of w = pos (digits w.text)

-- the characters of a text, and the one of a character literal
unfoldable pub content_of : Terminal → List ℕ
content_of w = unescaped 0 (between (chars w.text))

abbrev pub first_or_zero : List ℕ → ℕ
first_or_zero [] = 0
first_or_zero (c ∷ cs) = c

unfoldable pub character_of : Terminal → ℕ
character_of w = first_or_zero (content_of w)
