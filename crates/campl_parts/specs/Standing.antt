-- Processes at a command whose expressions are evaluated, and how they go on in place.
use Rattle.std.specs.Prelude.{◌≡◌, ℕ, List}
use Rattle.campl_value.specs.Tree.{Tree}
use Rattle.campl_code_bodies.specs.Kept.{Kept, Values, AtCall, Broken}
use Rattle.campl_kept.specs.View.{view_kept}
use Rattle.campl_cells.specs.Parts.{Held, Life, Ended, Runs, Serves}
use Rattle.campl_parts.specs.declared.standing.Standing.{Standing}
use Rattle.campl_parts.specs.Views.{held_of}

-- a process of this life stands there
abbrev pub IsStanding : Life → Standing → Type 0
IsStanding life s = (life ≡ Runs (held_of s.running.now)) × (view_kept s.running.now.kept ≡ Values s.at s.variables.now s.values.now)

-- another command is reached, with the same variables
abbrev pub reached_kept : (at : ℕ) → (values : List Tree) → Kept → Kept
reached_kept at values (Values a vars vs) = Values at vars values
reached_kept at values (AtCall f fs) = AtCall f fs
reached_kept at values Broken = Broken

-- where it is a process, its life with this change of what it keeps
abbrev pub kept_by : (Kept → Kept) → Life → Life
kept_by f Ended = Ended
kept_by f (Runs h) = Runs (record { block = h.block; ends = h.ends; kept = f h.kept })
kept_by f (Serves e s) = Serves e s

-- where it is a process, this other one
abbrev pub turned : Held → Life → Life
turned h Ended = Ended
turned h (Runs g) = Runs h
turned h (Serves e s) = Serves e s
