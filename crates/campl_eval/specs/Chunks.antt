-- What chunks of frames are seen as.
use Rattle.std.specs.Prelude.{◌≡◌, ◌<◌, List, [], ◌++◌, length, reverse, Option, Some, None}
use Rattle.std.specs.declared.sync.Arc.{Arc}

-- all that is in the chunks, the top first
abbrev pub under : {A Z : Type 0} → Option (Arc (List A) Z) → List A
under None = []
under (Some chunk) = chunk.value

-- the whole is these, of which there is one at least, on those below
abbrev pub Parts : {A : Type 0} → (whole frames below : List A) → Type 0
Parts whole frames below = (whole ≡ reverse frames ++ below) × (0 < length frames)
