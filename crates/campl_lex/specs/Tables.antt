-- Tables of spellings as the code has them.
use Rattle.std.specs.Prelude.{ℕ, List, [], ◌∷◌}
use denote.Ref.{Bor}
use Rattle.campl_lex.specs.declared.token.TokenKind.{TokenKind}

-- the rows of a table, each a spelling and its kind
abbrev pub rows : List (Bor (List ℕ) × TokenKind) → List (List ℕ × TokenKind)
rows [] = []
rows (row ∷ more) = (row.0.now, row.1) ∷ rows more
