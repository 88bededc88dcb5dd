-- Cells whose evaluation is kept advanced: to the values of the present command, to its break, or to its next call.
use Rattle.std.specs.Prelude.{◌≡◌, ℕ, ◌+◌, List, None}
use Rattle.campl_value.specs.Tree.{Tree}
use Rattle.campl_machine.specs.Names.{Path}
use Rattle.campl_meaning.specs.States as k
use Rattle.campl_code.specs.Instructions.{Code, blocks}
use Rattle.campl_code.specs.Frames.{Frame}
use Rattle.campl_code.specs.Runs.{Outcome, Gave, Broke, Pauses, Short, IsOver}
use Rattle.campl_code_bodies.specs.Commands.{Cell, CodeCommand, command, in_block, quiet, spends, run_of}
use Rattle.campl_machine.specs.Machine.{Breaks}
use Rattle.std.specs.Prelude.{slice_get}

pub data Kept : Type 0 where
  -- at the process's instruction, with the variables and the values
  Values : (at : ℕ) (vars values : List Tree) → Kept
  -- before a call, with the frames
  AtCall : Frame → List Frame → Kept
  Broken : Kept

abbrev pub kept_of : Outcome → Kept
kept_of (Gave at vars values left) = Values at vars values
kept_of (Broke reason left) = Broken
kept_of (Pauses f fs) = AtCall f fs
kept_of Short = Broken

-- what is kept is where the run of the cell's expressions ends with the calls spent
abbrev pub IsKept : Code → Cell → Kept → Type 0
IsKept code c kept = (n : ℕ) × IsOver (run_of code n c) × (kept ≡ kept_of (run_of code n c))

-- the cell's next command is read off what is kept
abbrev pub kept_command : Code → Cell → Path → (i : ℕ) → Kept → CodeCommand
kept_command code c p branch (Values at vars values) = in_block code c p branch at vars values (slice_get (blocks code) c.block)
kept_command code c p branch (AtCall f fs) = command k.Work None (quiet (spends c))
kept_command code c p branch Broken = command k.Work None Breaks

-- with so many more calls spent
abbrev pub spent_more : ℕ → Cell → Cell
spent_more m c = record c { spent = c.spent + m }
