-- Characters of literals as they are written: the quote, a backslash, and what has no picture, as an escape.
use Rattle.std.specs.Prelude.{ℕ, ◌++◌, codes, if◌then◌else◌, ◌==◌}
use Rattle.campl_value.specs.Shown.{shown_character}
use Rattle.campl_shown.specs.Types.{Written}

-- in its quotes
abbrev pub character_text : ℕ → Written
character_text c = codes "'" ++ (if c == 39 then codes "\\'" else shown_character c) ++ codes "'"
