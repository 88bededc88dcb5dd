-- A row with what patterns ask and bind behind what it has already. The words of patterns are closed, so that a proof about
-- code sees each pattern's own equation; `proofs/Flattening` has them.
use Rattle.std.specs.Prelude.{ℕ, List, [], ◌∷◌, ◌++◌}
use Rattle.campl_tree.specs.Plain.Pattern.{Pattern, Patterns}
use Rattle.campl_types.specs.Forms.{Form, form_of, part_forms, element_forms, text_form}
use Rattle.campl_types.specs.World.{World}
use Rattle.campl_code.specs.Decisions.{Spot}
use Rattle.campl_code.specs.Compiled.{Asked, Flat, flat_tests, row_spots, tests_in, tests_in_parts, spots_in, spots_in_parts}

abbrev pub with_test : Asked → Flat → Flat
with_test a r = record r { tests = r.tests ++ a ∷ [] }

abbrev pub with_spot : Spot → Flat → Flat
with_spot s r = record r { spots = r.spots ++ s ∷ [] }

-- of a form at a place
abbrev pub with_form : World → Spot → Form → Flat → Flat
with_form w s f r = record r { tests = r.tests ++ tests_in w s f; spots = r.spots ++ spots_in s f }

unfoldable pub with_pattern : World → Spot → Pattern → Flat → Flat
with_pattern w s p = with_form w s (form_of p)

-- of the elements of a list
unfoldable pub with_elements : World → Spot → Patterns → Flat → Flat
with_elements w s ps = with_form w s (element_forms ps)

-- of a text, whatever is declared
unfoldable pub with_text : Spot → List ℕ → Flat → Flat
with_text s cs = with_form [] s (text_form cs)

-- of the parts from number i on of what stands at a place
unfoldable pub with_parts : World → Spot → ℕ → Patterns → Flat → Flat
with_parts w s i ps r =
    record r { tests = r.tests ++ tests_in_parts w s i (part_forms ps); spots = r.spots ++ spots_in_parts s i (part_forms ps) }

-- the row with this number, for so many values
abbrev pub flat_row : World → ℕ → ℕ → List Form → Flat
flat_row w n i r = record { number = i; tests = flat_tests w n r; spots = row_spots 0 r }
