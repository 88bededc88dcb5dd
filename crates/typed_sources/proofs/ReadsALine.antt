-- The derivation of its typing.
use Rattle.std.proofs.Common.{refl}
use Rattle.campl_types.specs.World.{World, world_of}
use Rattle.campl_types.specs.Linear.{ProcessIsTyped}
use Rattle.campl_types.specs.Typed.{IsTyped}
use Rattle.typed_sources.proofs.Actions.{get, hput, halt}
use Rattle.typed_sources.proofs.Lasts.{process}
use Rattle.typed_sources.specs.ReadsALine.{run_process, reads_a_line}

abbrev w : World
w = world_of reads_a_line

run_process-typed : ProcessIsTyped w run_process
run_process-typed =
    process w run_process refl refl refl refl refl
    (hput refl refl refl
    (get refl refl
    (hput refl refl refl
    (halt refl refl refl))))

pub typed : IsTyped reads_a_line
typed =
    record {
      declared = refl;
      functions = (tt, tt);
      processes = (run_process-typed, tt);
    }
