-- What is found of heights between rounds.
use Rattle.std.specs.Prelude.{◌≡◌, ℕ, Bool, true, false, ◌≤◌, List, [], ◌∷◌, ◌++◌, Option, Some, None, if◌then◌else◌, slice_get, slice_set, option_map, map}
use Rattle.std.specs.List.{Contains}
use Rattle.campl_code.specs.Heights.{Heights, handed_by, is_among, or_later}
use Rattle.campl_code.specs.Instructions.{Instr, Code}
use Rattle.campl_code.specs.Operands.{ways_from}
use Rattle.campl_code.specs.Rules.{height_at}
use Rattle.campl_rules.specs.Given.{given_at}

abbrev pub is_new : Option (ℕ × Bool) → Bool
is_new None = false
is_new (Some p) = p.1

-- the same at each of these places
abbrev pub set_all : List ℕ → Option (ℕ × Bool) → Heights → Heights
set_all [] h heights = heights
set_all (to ∷ places) h heights = set_all places h (slice_set heights to h)

-- the height alone
abbrev pub first : Option (ℕ × Bool) → Option ℕ
first None = None
first (Some p) = Some p.0

abbrev pub height_there : Option (Option (ℕ × Bool)) → Option ℕ
height_there None = None
height_there (Some h) = first h

-- a place that has no height
abbrev pub is_free : Option (Option (ℕ × Bool)) → Bool
is_free None = false
is_free (Some None) = true
is_free (Some (Some p)) = false

-- ascending, from there on
abbrev pub Rising : ℕ → List ℕ → Type 0
Rising lo [] = Unit {0}
Rising lo (n ∷ ns) = (lo ≤ n) × Rising n ns

-- the places with a new height are among these
abbrev pub Covers : List ℕ → Heights → Type 0
Covers places heights = (i : ℕ) → is_new (height_at heights i) ≡ true → Contains places i

pub record AreFound (newest : List ℕ) (heights : Heights) (given : List (Option ℕ)) : Type 0 where
  pub rising : Rising 0 newest
  pub covers : Covers newest heights
  pub firsts : given ≡ map first heights

-- What instructions at places hand on

abbrev pub handed_there : Code → Bool → List Instr → ℕ → Option Instr → ℕ → Option (ℕ × Bool) → Option ℕ
handed_there code in_process block at None to h = None
handed_there code in_process block at (Some x) to h = handed_by code in_process block at x to h

abbrev pub handed_at : Code → Bool → List Instr → Heights → ℕ → ℕ → Option ℕ
handed_at code in_process block heights at to = handed_there code in_process block at (slice_get block at) to (height_at heights at)

-- the first one first
abbrev pub handed_in : Code → Bool → List Instr → Heights → List ℕ → ℕ → Option ℕ
handed_in code in_process block heights [] to = None
handed_in code in_process block heights (at ∷ places) to = or_later (handed_at code in_process block heights at to) (handed_in code in_process block heights places to)

-- Where they can go on

abbrev pub ways_at : Option Instr → ℕ → List ℕ
ways_at None at = []
ways_at (Some x) at = ways_from at x

abbrev pub ways_in : List Instr → List ℕ → List ℕ
ways_in block [] = []
ways_in block (at ∷ places) = ways_at (slice_get block at) at ++ ways_in block places

-- How heights change

-- at these places by this function of the place
abbrev pub Changed : Heights → List ℕ → (ℕ → Option (ℕ × Bool) → Option (ℕ × Bool)) → Heights → Type 0
Changed old places by new = (i : ℕ) → slice_get new i ≡ option_map (λ h. if is_among i places then by i h else h) (slice_get old i)

-- the height is no longer from the last round
abbrev pub settles : ℕ → Option (ℕ × Bool) → Option (ℕ × Bool)
settles i None = None
settles i (Some p) = Some (p.0, false)

abbrev pub taken_now : Option (ℕ × Bool) → Option ℕ → Option (ℕ × Bool)
taken_now (Some p) g = Some p
taken_now None (Some height) = Some (height, true)
taken_now None None = None

-- what is given comes where there is no height
abbrev pub takes : List (Option ℕ) → ℕ → Option (ℕ × Bool) → Option (ℕ × Bool)
takes given i h = taken_now h (given_at given i)
