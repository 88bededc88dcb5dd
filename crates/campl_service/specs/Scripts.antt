-- Scripts as lists of lines.
use Rattle.std.specs.Prelude.{◌≡◌, ℕ, List, [], ◌∷◌, ◌++◌, Option, Some, None, slice_index_or, slice_set}
use Rattle.std.specs.Borrow.{Bor}

-- the lines of a script, each by its characters
abbrev pub Lines : Type 0
Lines = List (List ℕ)

-- the first line, if there is one
abbrev pub IsFirst : Lines → Option (Bor (List ℕ)) → Type 0
IsFirst lines None = lines ≡ []
IsFirst lines (Some first) = (rest : Lines) × (lines ≡ first.now ∷ rest)

-- the first line is taken, if there is one
abbrev pub TakesFirst : (old : Lines) → Option (List ℕ) → (new : Lines) → Type 0
TakesFirst old None new = (old ≡ []) × (new ≡ [])
TakesFirst old (Some first) new = old ≡ first ∷ new

-- a line is put behind the others of the script of this number, from 0
abbrev pub put_behind : ℕ → List ℕ → List Lines → List Lines
put_behind i line scripts = slice_set scripts i (slice_index_or scripts i [] ++ line ∷ [])
