-- What a round gives to each place.
use Rattle.std.specs.Prelude.{◌≡◌, ℕ, Bool, true, ◌&&◌, List, Option, Some, None, if◌then◌else◌, slice_get, option_map, unwrap_or, length, ◌<◌}
use Rattle.campl_code.specs.Instructions.{Instr, Code}
use Rattle.campl_code.specs.Heights.{Heights, is_among, or_later}
use Rattle.campl_code.specs.Rules.{is_own_height, height_at, ways_agree}

-- what it is given there
abbrev pub given_at : List (Option ℕ) → ℕ → Option ℕ
given_at given to = unwrap_or (slice_get given to) None

-- a height for each of these places
abbrev pub gives : List ℕ → ℕ → ℕ → Option ℕ
gives places height to = if is_among to places then Some height else None

-- each place has what it had, or else what comes now
abbrev pub TakesLater : List (Option ℕ) → (ℕ → Option ℕ) → List (Option ℕ) → Type 0
TakesLater old comes new = (to : ℕ) → slice_get new to ≡ option_map (λ g. or_later g (comes to)) (slice_get old to)

-- each place agrees as it did, and with what comes now
abbrev pub AgreesLater : List Bool → (ℕ → Bool) → List Bool → Type 0
AgreesLater old comes new = (to : ℕ) → slice_get new to ≡ option_map (λ b. b && comes to) (slice_get old to)

-- at each of these places the height is that place's own
abbrev pub fits_there : List ℕ → ℕ → Heights → ℕ → Bool
fits_there places height heights to = if is_among to places then is_own_height height (height_at heights to) else true

-- for each place of the block whether the ways to it agree
abbrev pub IsAgreement : Code → Bool → List Instr → Heights → List Bool → Type 0
IsAgreement code in_process block heights agrees =
    (to : ℕ) → to < length block → slice_get agrees to ≡ Some (ways_agree code in_process block 0 block heights to (height_at heights to))
