-- What is kept is where a run ends.
use Rattle.std.specs.Prelude.{◌≡◌, ℕ, List}
use Rattle.campl_code.specs.Instructions.{Code}
use Rattle.campl_code.specs.Frames.{Frame}
use Rattle.campl_code.specs.Runs.{IsOver, run}
use Rattle.campl_code_bodies.specs.Kept.{Kept, kept_of}

-- from these frames with so many calls. That of a cell, `IsKept`, is this from the cell's place with the calls that it spent
abbrev pub Keeps : Code → Frame → List Frame → (calls : ℕ) → Kept → Type 0
Keeps code f fs calls kept = (n : ℕ) × IsOver (run code n f fs calls) × (kept ≡ kept_of (run code n f fs calls))
