-- A tree of matches. Place k is decided between the places 2k and 2k + 1, and from the size on the places are the processes' flags.
use Rattle.std.specs.Prelude.{◌≡◌, ◌+◌, ◌-◌, ◌*◌, ◌<◌, ◌≢◌, ℕ, Bool, true, false, List, Option, Some, None, length, nat_lt, slice_index_or, if◌then◌else◌}
use Rattle.campl_machine.specs.Names.{Who}
use Rattle.campl_meaning.specs.OneAtATime.{is_before}

abbrev pub is_flagged : List Bool → ℕ → Bool
is_flagged flags i = slice_index_or flags i false

-- who comes from the place k: its winner, or the flagged process
abbrev pub entrant : List Bool → List (Option ℕ) → ℕ → Option ℕ
entrant flags winners k =
    if nat_lt k (length winners) then slice_index_or winners k None else if is_flagged flags (k - length winners) then Some (k - length winners) else None

abbrev pub better : (ℕ → ℕ → Bool) → Option ℕ → Option ℕ → Option ℕ
better lt None b = b
better lt (Some i) None = Some i
better lt (Some i) (Some j) = if lt j i then Some j else Some i

abbrev pub IsDecided : (ℕ → ℕ → Bool) → List Bool → List (Option ℕ) → ℕ → Type 0
IsDecided lt flags winners k = slice_index_or winners k None ≡ better lt (entrant flags winners (2 * k)) (entrant flags winners (2 * k + 1))

-- all places but one are decided
abbrev pub AllBut : (ℕ → ℕ → Bool) → List Bool → List (Option ℕ) → ℕ → Type 0
AllBut lt flags winners h = (k : ℕ) → 0 < k → k < length winners → k ≢ h → IsDecided lt flags winners k

abbrev pub IsBoard : (ℕ → ℕ → Bool) → List Bool → List (Option ℕ) → Type 0
IsBoard lt flags winners = (k : ℕ) → 0 < k → k < length winners → IsDecided lt flags winners k

-- all processes on it are below so many
pub record Within (count : ℕ) (flags : List Bool) (winners : List (Option ℕ)) : Type 0 where
  pub flagged : (i : ℕ) → is_flagged flags i ≡ true → i < count
  pub winner : (k i : ℕ) → slice_index_or winners k None ≡ Some i → i < count

-- nobody is flagged, or this one is, and none that is flagged stands before it
abbrev pub IsFirstFlagged : (ℕ → ℕ → Bool) → List Bool → Option ℕ → Type 0
IsFirstFlagged lt flags None = (j : ℕ) → is_flagged flags j ≡ false
IsFirstFlagged lt flags (Some i) = (is_flagged flags i ≡ true) × ((j : ℕ) → is_flagged flags j ≡ true → lt j i ≡ false)

-- numbers, in the order of their names
abbrev pub earlier : (ℕ → Who) → ℕ → ℕ → Bool
earlier names i j = is_before (names i) (names j)
