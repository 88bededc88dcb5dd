-- The rows of tests that the code's rows are seen as.
use Rattle.std.specs.Prelude.{List, map}
use Rattle.std.specs.Borrow.{Bor}
use Rattle.campl_code.specs.Compiled as c
use Rattle.campl_instructions.specs.View.{view_head}
use Rattle.campl_match.specs.declared.asked.Asked.{Asked}
use Rattle.campl_match.specs.declared.flat.Flat.{Flat}
use Rattle.campl_match.specs.declared.open.Open.{Open}

abbrev pub view_asked : Asked → c.Asked
view_asked a = (a.spot, view_head a.head)

abbrev pub view_tests : List Asked → List c.Asked
view_tests = map view_asked

abbrev pub view_flat : Flat → c.Flat
view_flat r = record { number = r.number; tests = view_tests r.tests; spots = r.spots }

-- of references, what they point to
abbrev pub view_asked_at : Bor Asked → c.Asked
view_asked_at a = view_asked a.now

abbrev pub view_open : Open → c.Flat
view_open r = record { number = r.row.now.number; tests = map view_asked_at r.tests; spots = r.row.now.spots }

abbrev pub view_rows : List Open → List c.Flat
view_rows = map view_open
