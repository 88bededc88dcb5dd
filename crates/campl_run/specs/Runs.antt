-- Whole runs.
use Rattle.std.specs.Prelude.{◌≡◌, ℕ, List}
use Rattle.campl_tree.specs.Plain.Decl.{Program}
use Rattle.campl_types.specs.World.{world_of}
use Rattle.campl_service.specs.Scripts.{Lines}
use Rattle.campl_meaning.specs.Reductions.{Configuration}
use Rattle.campl_meaning.specs.Ends.{Ending}
use Rattle.campl_meaning.specs.Ends as e
use Rattle.campl_meaning.specs.Journals.{IsRunFromStart}
use Rattle.campl_meaning.specs.OneAtATime.{RunsFromStart}
use Rattle.campl_meaning.specs.Output.{output_of}
use Rattle.campl_laws.specs.Reached.{IsMet}
use Rattle.campl_parts.specs.Journal.{weight_of}
use Rattle.campl_solo.specs.Solos.{told}
use Rattle.campl_run.specs.declared.ended.Ended.{Ended}
use Rattle.campl_run.specs.declared.ended.Ended.TheVariants as v
use Rattle.campl_run.specs.declared.running.Ran.{Ran}

-- the ending that it names
abbrev pub ending_of : Ended → Ending
ending_of v.Finished = e.Finished
ending_of v.Awaiting = e.Awaiting
ending_of v.OutOfSteps = e.OutOfSteps
ending_of v.Broken = e.Broken

-- the journal is the source's run of one at a time with these scripts, up to its end within the budget, and this is its output
pub record IsRunThrough (source : Program) (scripts : List Lines) (budget : ℕ) (ran : Ran) : Type 0 where
  pub last : Configuration
  pub met : IsMet source last
  pub journal : IsRunFromStart (world_of source) scripts (told ran.journal.entries) last
  pub alone : RunsFromStart (world_of source) scripts budget (ending_of ran.ended) (weight_of ran.journal.entries) last
  pub output : ran.output.items ≡ output_of (world_of source) last (ending_of ran.ended) (weight_of ran.journal.entries)
