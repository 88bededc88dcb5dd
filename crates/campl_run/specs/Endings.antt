-- What is told of a run that stopped.
use Rattle.std.specs.Prelude.{◌≡◌, List}
use Rattle.campl_tree.specs.declared.service.ServiceName.{ServiceName}
use Rattle.campl_turns.specs.Endings.{EndsAs}
use Rattle.campl_parts.specs.declared.entry.Entry.{Entry}
use Rattle.campl_parts.specs.Journal.{weight_of}
use Rattle.campl_steps.specs.declared.config.Config.{Config}
use Rattle.campl_steps.specs.Configs.{parts}
use Rattle.campl_solo.specs.declared.solo.Stop.{Stop}
use Rattle.campl_solo.specs.declared.solo.Stop.TheVariants.{Rested, Spent}
use Rattle.campl_run.specs.declared.ended.Ended.{Ended}
use Rattle.campl_run.specs.declared.ended.Ended.TheVariants.{OutOfSteps}
use Rattle.campl_run.specs.declared.running.Ran.{Ran}
use Rattle.campl_run.specs.Runs.{ending_of}
use Rattle.campl_run.specs.Printed.{printed}

-- a run that stopped here for this reason ended so
abbrev pub EndsSo : Stop → Config → Ended → Type 0
EndsSo Spent config ended = ended ≡ OutOfSteps
EndsSo Rested config ended = EndsAs (parts config) (ending_of ended)

-- it stopped here for this reason, with these entries in its journal, and its services have these names
pub record IsToldOf (stop : Stop) (config : Config) (entries : List Entry) (names : List ServiceName) (ran : Ran) : Type 0 where
  pub journal : ran.journal.entries ≡ entries
  pub ended : EndsSo stop config ran.ended
  pub output : ran.output.items ≡ printed names config.processes.items ran.ended (weight_of entries)
