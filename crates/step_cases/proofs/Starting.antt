-- A run that starts is a run.
use Rattle.std.proofs.Common.{◌≡◌, ℕ, List, Some, IfOk, Result, Ok, Err, codes, subst}
use Rattle.std.specs.declared.alloc.AllocError.{AllocError}
use Rattle.campl_tree.specs.Plain.Decl.{Program as Source}
use Rattle.campl_types.specs.World.{World, world_of}
use Rattle.campl_types.specs.Run.{services_of}
use Rattle.campl_meaning.specs.Lawful.{IsAccepted}
use Rattle.campl_meaning.specs.Start.{start}
use Rattle.campl_service.specs.Scripts.{Lines}
use Rattle.campl_service.specs.Services.{Serving}
use Rattle.campl_cells.specs.Starts.{start_naming}
use Rattle.campl_code_bodies.specs.Bodies.{StandsFor}
use Rattle.campl_code_bodies.specs.BodyCode.{process_number}
use Rattle.campl_eval.specs.View.{code_of}
use Rattle.campl_gen.specs.Generated.{world_code}
use Rattle.campl_program.specs.declared.program.Program.{Program}
use Rattle.campl_solo.specs.declared.solo.Solo.{Solo}
use Rattle.campl_solo.specs.Beginning.{servings_at_start}
use Rattle.campl_solo.specs.Solos.{IsAtStart}
use Rattle.campl_cli.specs.Source.{IsAcceptedWorld}
use Rattle.campl_cli.proofs.WholeRuns.{world-stands}
use Rattle.step_cases.specs.Begun.{IsRunning}

-- what `Solo::start` answers for
abbrev pub Starts : Program → (number : ℕ) → List Serving → Result Solo AllocError → Type 0
Starts program number servings result =
    (source : Source) (scripts : List Lines) → IsAccepted source → StandsFor (world_of source) (code_of program) → process_number (world_of source) (codes "run") ≡ Some number →
    servings ≡ servings_at_start (services_of (world_of source)) scripts → IfOk result (IsAtStart source (code_of program) scripts)

at-start : (program : Program) (source : Source) (scripts : List Lines) (result : Result Solo AllocError) → IfOk result (IsAtStart source (code_of program) scripts) → IfOk result (IsRunning program)
at-start program source scripts (Ok solo) h = (source, start_naming, start (world_of source) scripts, h.run)
at-start program source scripts (Err error) h = tt

-- the services and the number of an accepted world
pub started : (world : World) (program : Program) (number : ℕ) (servings : List Serving) (result : Result Solo AllocError) → IsAcceptedWorld world → code_of program ≡ world_code world →
    process_number world (codes "run") ≡ Some number → (scripts : List Lines) → servings ≡ servings_at_start (services_of world) scripts → Starts program number servings result →
    IfOk result (IsRunning program)
started world program number servings result (source, accepted, same) code named scripts are h =
    at-start program source scripts result
    (h source scripts accepted (world-stands source world (code_of program) accepted same code)
    (subst (λ (w : World). process_number w (codes "run") ≡ Some number) same named)
    (subst (λ (w : World). servings ≡ servings_at_start (services_of w) scripts) same are))
