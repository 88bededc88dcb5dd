-- Where characters stand in a text.
use Rattle.std.specs.Prelude.{ℕ, ◌+◌, ◌==◌, if◌then◌else◌, List, [], ◌∷◌}
use Rattle.std.specs.Char.{len_utf8}
use Rattle.campl_tree.specs.declared.place.Place.{Place}
use Rattle.campl_lex.specs.declared.spot.Spot.{Spot}

-- the place behind a character: LF (10) ends a line
abbrev pub after : Place → ℕ → Place
after p c = if c == 10 then record { line = p.line + 1; column = 1 } else record { line = p.line; column = p.column + 1 }

-- the place behind characters
abbrev pub place_past : Place → List ℕ → Place
place_past p [] = p
place_past p (c ∷ cs) = place_past (after p c) cs

-- how many bytes the characters take
abbrev pub bytes : List ℕ → ℕ
bytes [] = 0
bytes (c ∷ cs) = len_utf8 c + bytes cs

abbrev pub past : Spot → List ℕ → Spot
past s cs = record { at = s.at + bytes cs; place = place_past s.place cs }

abbrev pub first_place : Place
first_place = record { line = 1; column = 1 }

abbrev pub first_spot : Spot
first_spot = record { at = 0; place = first_place }
