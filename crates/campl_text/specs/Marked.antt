-- The byte order mark, U+FEFF, that some editors put before a text.
use Rattle.std.specs.Prelude.{ℕ, List, [], ◌∷◌, drop, nat_eq, if◌then◌else◌}
use Rattle.std.specs.List.{starts_with}

-- the mark in UTF-8
abbrev pub mark : List ℕ
mark = 0xEF ∷ 0xBB ∷ 0xBF ∷ []

-- the bytes without one leading mark
abbrev pub without_mark : List ℕ → List ℕ
without_mark bytes = if starts_with nat_eq bytes mark then drop 3 bytes else bytes
