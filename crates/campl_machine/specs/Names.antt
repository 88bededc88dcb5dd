-- Names of nodes (processes and services) and of the ends of channels, and the tests whether two are the same.
use Rattle.std.specs.Prelude.{◌≡◌, ℕ, Bool, true, false, List, [], ◌∷◌, ◌&&◌, eqb}

-- where a child stands in its family: the number of its parent's step, and its place among that step's children
pub record Birth : Type 0 where
  pub step : ℕ
  pub place : ℕ

-- a process is named by its line of births, the oldest first; the first process has the empty one
abbrev pub Path : Type 0
Path = List Birth

-- which half of a channel an end is
pub data Half : Type 0 where
  First : Half
  Second : Half

-- an end of a channel: the process and the step that bore the channel, which of that step's channels it is, and its half
pub record End : Type 0 where
  pub bearer : Path
  pub step : ℕ
  pub channel : ℕ
  pub half : Half

-- who makes steps: a process, or a service of the surroundings
pub data Who : Type 0 where
  Process : Path → Who
  Service : ℕ → Who

-- whether two births are the same
abbrev pub same_birth : Birth → Birth → Bool
same_birth a b = eqb a.step b.step && eqb a.place b.place

-- whether two paths are the same
abbrev pub same_path : Path → Path → Bool
same_path [] [] = true
same_path (x ∷ xs) (y ∷ ys) = same_birth x y && same_path xs ys
same_path _ _ = false

-- whether two halves are the same
abbrev pub same_half : Half → Half → Bool
same_half First First = true
same_half Second Second = true
same_half _ _ = false

-- whether two ends are the same
abbrev pub same_end : End → End → Bool
same_end a b = same_path a.bearer b.bearer && (eqb a.step b.step && (eqb a.channel b.channel && same_half a.half b.half))

-- whether two nodes are the same
abbrev pub same_who : Who → Who → Bool
same_who (Process p) (Process q) = same_path p q
same_who (Service i) (Service j) = eqb i j
same_who _ _ = false

-- the test says whether two names are equal
pub record TellsApart {K : Type 0} (same : K → K → Bool) : Type 0 where
  pub is : (a b : K) → same a b ≡ true → a ≡ b
  pub own : (a : K) → same a a ≡ true
