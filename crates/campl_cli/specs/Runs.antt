-- What a run did and printed.
use Rattle.std.specs.Prelude.{◌≡◌, ℕ, ◌+◌, ◌*◌, List, [], ◌∷◌, ◌++◌, Option, Some, None, Ok, length, replicate, codes, chars}
use Rattle.std.specs.Fmt.{decimal}
use Rattle.campl_tree.specs.declared.decl.Program.{Program as Tree}
use Rattle.campl_tree.specs.declared.service.ServiceName.{ServiceName}
use Rattle.campl_tree.specs.Plain.Decl.{Program}
use Rattle.campl_tree.specs.View.{view_program}
use Rattle.campl_machine.specs.Names.{Path, Process}
use Rattle.campl_types.specs.World.{world_of}
use Rattle.campl_service.specs.Reading.{scripts_of}
use Rattle.campl_service.specs.Scripts.{Lines}
use Rattle.campl_meaning.specs.States.{Running, Runs}
use Rattle.campl_meaning.specs.Reductions.{Configuration}
use Rattle.campl_meaning.specs.Ends.{Ending, HasNoProcess, IsAsked, IsBrokenAt, IsEnabled}
use Rattle.campl_meaning.specs.Ends as e
use Rattle.campl_meaning.specs.Journals.{IsRunFromStart}
use Rattle.campl_meaning.specs.OneAtATime.{RunsFromStart}
use Rattle.campl_meaning.specs.Output.{output_of}
use Rattle.campl_progress.specs.Deep.{SaysDeep}
use Rattle.campl_parts.specs.Journal.{weight_of}
use Rattle.campl_solo.specs.Solos.{told}
use Rattle.campl_run.specs.declared.ended.Ended.{Ended}
use Rattle.campl_run.specs.declared.ended.Ended.TheVariants as v
use Rattle.campl_run.specs.Runs.{ending_of}
use Rattle.campl_pipeline.specs.Source.{generated_source}
use Rattle.campl_cli.specs.declared.running.TheConstants.{STEPS_BESIDE, STEPS_OF_A_STAGE}
use Rattle.campl_cli.specs.declared.report.Report.{Report}
use Rattle.campl_cli.specs.Refusals.{Files, HasScript, HasText}
use Rattle.campl_cli.specs.Source.{IsAcceptedAs, heading_of}

-- the status of a run that ended so
abbrev pub status_of_end : Ended → ℕ
status_of_end v.Finished = 0
status_of_end v.Awaiting = 10
status_of_end v.OutOfSteps = 11
status_of_end v.Broken = 12

-- and of what was done, where nothing may have run
abbrev pub status_by : Option Ended → ℕ
status_by (Some ended) = status_of_end ended
status_by None = 0

-- a process is broken, and each that is broken has a value that grew too deep
abbrev pub IsTooDeep : Program → Configuration → Type 0
IsTooDeep source c =
    ((p : Path) × IsBrokenAt (world_of source) c p)
    × ((p : Path) → IsBrokenAt (world_of source) c p → (r : Running) × (c.nodes (Process p) ≡ Some (Runs r)) × SaysDeep (world_of source) r)

-- why a run goes on no more: no process is left; or a value grew too deep; or none is broken, and a service was asked for a line with
-- its script spent; or the budget is spent, and something could happen
abbrev pub StandsStill : Program → Configuration → Ending → Type 0
StandsStill source c e.Finished = HasNoProcess c
StandsStill source c e.Broken = IsTooDeep source c
StandsStill source c e.Awaiting = ((p : Path) → IsBrokenAt (world_of source) c p → ⊥) × ((n : ℕ) × IsAsked c n)
StandsStill source c e.OutOfSteps = IsEnabled (world_of source) c

-- what a run of this source with these scripts and this budget did and printed: it is the run of one at a time, and the journal tells it
pub record HasRun (source : Program) (scripts : List Lines) (budget : ℕ) (report : Report) (output : List ℕ) : Type 0 where
  pub ended : Ended
  pub is_ended : report.ended ≡ Some ended
  pub last : Configuration
  pub journal : IsRunFromStart (world_of source) scripts (told report.journal.entries) last
  pub alone : RunsFromStart (world_of source) scripts budget (ending_of ended) report.steps last
  pub steps : report.steps ≡ weight_of report.journal.entries
  pub still : StandsStill source last (ending_of ended)
  pub prints : output ≡ output_of (world_of source) last (ending_of ended) report.steps

-- scripts without lines, one for each of these channels
abbrev pub no_scripts : List ServiceName → List Lines
no_scripts names = replicate (length names) []

abbrev pub HaveNoLines : List ServiceName → List Lines → Type 0
HaveNoLines names scripts = scripts ≡ no_scripts names

-- the scripts of a run: the lines of each channel in the script's file, or none
abbrev pub HasScripts : Files → (script : Option (List ℕ)) → List ServiceName → List Lines → Type 0
HasScripts files None names scripts = HaveNoLines names scripts
HasScripts files (Some file) names scripts = (text : List ℕ) × HasScript files file text × (scripts_of names (chars text) ≡ Ok scripts)

-- the source of this tree is run with scripts that are so
pub record RunsTree (tree : Tree) (are : List ServiceName → List Lines → Type 0) (budget : ℕ) (report : Report) (output : List ℕ) : Type 0 where
  pub scripts : List Lines
  pub are_so : are (heading_of tree) scripts
  pub run : HasRun (view_program tree) scripts budget report output

-- the text is accepted, and run so
abbrev pub RunsText : (text : List ℕ) → (are : List ServiceName → List Lines → Type 0) → (budget : ℕ) → Report → (output : List ℕ) → Type 0
RunsText text are budget report output = (tree : Tree) × IsAcceptedAs text tree × RunsTree tree are budget report output

-- the file's source is accepted, and run with these scripts
abbrev pub RunsFile : Files → (file : List ℕ) → (script : Option (List ℕ)) → (budget : ℕ) → Report → (output : List ℕ) → Type 0
RunsFile files file script budget report output = (text : List ℕ) × HasText files file text × RunsText text (HasScripts files script) budget report output

-- the budget of a pipeline of so many stages
abbrev pub generated_budget : (stages : ℕ) → ℕ
generated_budget stages = STEPS_OF_A_STAGE * stages + STEPS_BESIDE

-- what is printed before its run
abbrev pub generated_line : (stages : ℕ) → List ℕ
generated_line stages = codes "generated " ++ (decimal stages ++ (codes " stages" ++ 10 ∷ []))

-- the pipeline is run without lines
pub record RunsGenerated (stages : ℕ) (report : Report) (output : List ℕ) : Type 0 where
  pub transcript : List ℕ
  pub run : RunsText (generated_source stages) HaveNoLines (generated_budget stages) report transcript
  pub prints : output ≡ generated_line stages ++ transcript
