-- What the runs of a source reach from the start with these scripts, and how they end.
use Rattle.std.specs.Prelude.{◌≢◌, ℕ, List}
use Rattle.campl_tree.specs.Plain.Decl.{Program}
use Rattle.campl_types.specs.World.{world_of}
use Rattle.campl_machine.specs.Runs.{Run, Reaches}
use Rattle.campl_service.specs.Scripts.{Lines}
use Rattle.campl_meaning.specs.Reductions.{Configuration}
use Rattle.campl_meaning.specs.Start.{start}
use Rattle.campl_meaning.specs.Ends.{Ending, OutOfSteps, IsEnd}
use Rattle.campl_meaning.specs.Kept.{Goes}
use Rattle.campl_meaning.specs.Lawful.{IsAccepted}
use Rattle.campl_meaning.specs.Races.{WorldHasNoRace}

-- some reductions lead from the start to c, in any order, by any branches of races
abbrev pub IsReached : Program → List Lines → Configuration → Type 0
IsReached source scripts c = Reaches (Goes (world_of source)) (start (world_of source) scripts) c

-- in an accepted source, with some scripts
abbrev pub IsMet : Program → Configuration → Type 0
IsMet source c = IsAccepted source × ((scripts : List Lines) × IsReached source scripts c)

-- an accepted source of which no declared process has a race
abbrev pub IsRaceless : Program → Type 0
IsRaceless source = IsAccepted source × WorldHasNoRace (world_of source)

-- n reductions lead there, no more is possible, and this is how the run ends
pub record IsAnswer (source : Program) (scripts : List Lines) (n : ℕ) (ending : Ending) (c : Configuration) : Type 0 where
  pub run : Run (Goes (world_of source)) n (start (world_of source) scripts) c
  pub ends : IsEnd (world_of source) c n n ending
  pub is_over : ending ≢ OutOfSteps
