-- Runs that have begun.
use Rattle.std.specs.Prelude.{◌≡◌, List, map}
use Rattle.campl_tree.specs.Plain.Decl.{Program as Source}
use Rattle.campl_types.specs.World.{World}
use Rattle.campl_types.specs.Run.{services_of}
use Rattle.campl_meaning.specs.Reductions.{Configuration}
use Rattle.campl_service.specs.Scripts.{Lines}
use Rattle.campl_service.specs.declared.service.Service.{Service}
use Rattle.campl_cells.specs.Stands.{Naming}
use Rattle.campl_eval.specs.View.{code_of}
use Rattle.campl_program.specs.declared.program.Program.{Program}
use Rattle.campl_solo.specs.declared.solo.Solo.{Solo}
use Rattle.campl_solo.specs.Beginning.{servings_at_start}
use Rattle.campl_solo.specs.Solos.{IsRun}

-- it is somewhere in the run of an accepted source
abbrev pub IsRunning : Program → Solo → Type 0
IsRunning program solo = (source : Source) × (n : Naming) × (c : Configuration) × IsRun source (code_of program) n c solo

-- the services of a source at the start, with some scripts
abbrev pub AreServices : World → List Service → Type 0
AreServices world services = (scripts : List Lines) × (map (λ s. s.serving) services ≡ servings_at_start (services_of world) scripts)
