-- A sink over memory.
use Rattle.std.specs.Prelude.{◌≡◌, ℕ, ◌<◌, List, length, min, Contains, ◌⊎◌}
use Rattle.campl_text.specs.Counts.{one_more}

-- what it took, how many bytes it has room for yet, how many it takes at most in one write, which writes
-- are to fail, counted from 1, how many writes there were, and how many of them failed
pub record Taken : Type 0 where
  pub bytes : List ℕ
  pub room : ℕ
  pub most : ℕ
  pub failing : List ℕ
  pub writes : ℕ
  pub faults : ℕ

-- the next write fails: it is named as one that is to, or no room is left for what it brings
abbrev pub Refuses : Taken → List ℕ → Type 0
Refuses sink piece = Contains sink.failing (one_more sink.writes) ⊎ ((sink.room ≡ 0) × (0 < length piece))

-- how many bytes the next write takes of a piece, if it doesn't fail
abbrev pub share_of : Taken → List ℕ → ℕ
share_of sink piece = min (min (length piece) sink.most) sink.room
