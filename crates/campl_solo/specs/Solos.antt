-- The run of one at a time in memory.
use Rattle.std.specs.Prelude.{◌≡◌, ◌<◌, ◌≤◌, ℕ, suc, Bool, true, false, List, [], ◌∷◌, ◌++◌, Option, Some, None, IsSome, Result, Ok, Err, length, map}
use Rattle.std.specs.declared.alloc.AllocError.{AllocError}
use Rattle.campl_tree.specs.Plain.Decl.{Program}
use Rattle.campl_machine.specs.Names.{Service}
use Rattle.campl_machine.specs.Runs.{Run}
use Rattle.campl_types.specs.World.{world_of}
use Rattle.campl_types.specs.Run.{services_of}
use Rattle.campl_meaning.specs.Reductions.{Configuration}
use Rattle.campl_meaning.specs.Ends.{IsEnabled}
use Rattle.campl_meaning.specs.Journals as journals
use Rattle.campl_meaning.specs.Journals.{IsRunOf, naming_at_start}
use Rattle.campl_meaning.specs.Start.{start}
use Rattle.campl_service.specs.Scripts.{Lines}
use Rattle.campl_cells.specs.Starts.{start_naming}
use Rattle.campl_meaning.specs.OneAtATime.{FirstReduces}
use Rattle.campl_code.specs.Instructions.{Code}
use Rattle.campl_code_bodies.specs.Bodies.{StandsFor}
use Rattle.campl_laws.specs.Reached.{IsMet}
use Rattle.campl_cells.specs.Parts.{Parts}
use Rattle.campl_cells.specs.Stands.{Naming}
use Rattle.campl_cells.specs.Runs.{Turn}
use Rattle.campl_cells_laws.specs.Sources.{Represents}
use Rattle.campl_turns.specs.Meaning.{Means}
use Rattle.campl_turns.specs.Turns.{Rests, WaitsOn, told_entry, told_naming}
use Rattle.campl_parts.specs.declared.entry.Entry.{Entry}
use Rattle.campl_parts.specs.Journal.{weight_of}
use Rattle.campl_parts.specs.Views.{entry_of}
use Rattle.campl_steps.specs.Configs.{parts}
use Rattle.campl_order.specs.Waiting.{IsScheduled, Keeps}
use Rattle.campl_solo.specs.declared.solo.Solo.{Solo}
use Rattle.campl_solo.specs.declared.solo.Stop.{Stop}
use Rattle.campl_solo.specs.declared.solo.Stop.TheVariants.{Rested, Spent}

-- the tables fit the configuration: whoever isn't flagged rests, unless it waits on an end where something has changed
pub record AreTables (code : Code) (n : Naming) (changed : List ℕ) (solo : Solo) : Type 0 where
  pub scheduled : IsScheduled n.who solo.schedule
  pub processes : length solo.schedule.order.ranks.items ≡ length solo.config.processes.items
  pub ends : length solo.schedule.waiting.items ≡ length solo.config.ends.items
  pub keeps : Keeps (Rests code (parts solo.config)) (WaitsOn code (parts solo.config)) solo.schedule.board.flags.items solo.schedule.waiting.items
      (length solo.config.processes.items) changed

-- the run of an accepted source has come to this configuration
pub record IsRun (source : Program) (code : Code) (n : Naming) (c : Configuration) (solo : Solo) : Type 0 where
  pub met : IsMet source c
  pub stands : StandsFor (world_of source) code
  pub represents : Represents (world_of source) code n (parts solo.config) c
  pub tables : AreTables code n [] solo
  -- behind `run` stand the services, in the order of the heading
  pub services : (k : ℕ) → k < length (services_of (world_of source)) → IsSome ((parts solo.config).process (suc k)) × (n.who (suc k) ≡ Service k)

-- it stands at the start of the source with these scripts, whose numbers journals read as they read those of the source's start
pub record IsAtStart (source : Program) (code : Code) (scripts : List Lines) (solo : Solo) : Type 0 where
  pub run : IsRun source code start_naming (start (world_of source) scripts) solo
  pub told : told_naming start_naming (parts solo.config) ≡ naming_at_start (world_of source)

-- nobody has a next step
abbrev pub Rest : Code → Solo → Type 0
Rest code solo = (p : ℕ) → Rests code (parts solo.config) p

-- a step of the first who has one
pub record HasStepped (source : Program) (code : Code) (n : Naming) (c : Configuration) (old : Solo) (entry : Entry) (new : Solo) : Type 0 where
  pub turn : Turn
  pub means : Means (world_of source) code n (parts old.config) c turn (entry_of entry) (parts new.config)
  pub run : IsRun source code means.naming means.next new
  pub one : entry.weight ≡ 1

-- it stands where it stood
pub record Stays (source : Program) (code : Code) (n : Naming) (c : Configuration) (old new : Solo) : Type 0 where
  pub run : IsRun source code n c new
  pub same : parts new.config ≡ parts old.config

-- the entries that a run made, as journals tell them
abbrev pub told : List Entry → List journals.Entry
told entries = map (λ e. told_entry (entry_of e)) entries

-- these entries lead on: they are so many steps of the run of one at a time, and it has come to where they lead
pub record GoesOn (source : Program) (code : Code) (n : Naming) (c : Configuration) (old : Parts) (entries : List Entry) (new : Solo) : Type 0 where
  pub naming : Naming
  pub last : Configuration
  pub journal : IsRunOf (world_of source) (told_naming n old) c (told entries) (told_naming naming (parts new.config)) last
  pub run : Run (FirstReduces (world_of source)) (weight_of entries) c last
  pub is : IsRun source code naming last new

-- the journal has grown by the steps that were made
pub record Grew (source : Program) (code : Code) (n : Naming) (c : Configuration) (old new : Solo) (before after : List Entry) : Type 0 where
  pub entries : List Entry
  pub appended : after ≡ before ++ entries
  pub goes : GoesOn source code n c (parts old.config) entries new

-- a step was made and is in the journal, or nobody has one, or memory or numbers are out
abbrev pub Written : Program → Code → Naming → Configuration → (old new : Solo) → (before after : List Entry) → Result Bool AllocError → Type 0
Written source code n c old new before after (Ok true) =
    (entry : Entry) × (after ≡ before ++ entry ∷ []) × HasStepped source code n c old entry new
Written source code n c old new before after (Ok false) = (after ≡ before) × Stays source code n c old new × Rest code new
Written source code n c old new before after (Err error) = (after ≡ before) × Stays source code n c old new

-- why it stopped: nobody has a step, or the budget is spent and somebody has one
abbrev pub Stopped : (source : Program) → Code → (total budget : ℕ) → Configuration → Solo → Result Stop AllocError → Type 0
Stopped source code total budget last new (Ok Rested) = Rest code new
Stopped source code total budget last new (Ok Spent) = (total ≡ budget) × IsEnabled (world_of source) last
Stopped source code total budget last new (Err error) = Unit {0}

-- the journal has grown by the steps that were made
pub record Ran (source : Program) (code : Code) (budget : ℕ) (n : Naming) (c : Configuration) (old new : Solo) (before after : List Entry) (result : Result Stop AllocError) : Type 0 where
  pub entries : List Entry
  pub appended : after ≡ before ++ entries
  pub within : weight_of after ≤ budget
  pub goes : GoesOn source code n c (parts old.config) entries new
  pub stopped : Stopped source code (weight_of after) budget goes.last new result
