-- The ends that a process holds, by channel.
use Rattle.std.specs.Prelude.{ℕ, List, Option, Some, None, map, slice_get}

abbrev pub found : Option (Option ℕ) → Option ℕ
found None = None
found (Some e) = e

-- the end of each channel
abbrev pub ends_of : List (Option ℕ) → ℕ → Option ℕ
ends_of items n = found (slice_get items n)

-- the ends of these channels, in their order
abbrev pub handed : List (Option ℕ) → List ℕ → List (Option ℕ)
handed items channels = map (ends_of items) channels
