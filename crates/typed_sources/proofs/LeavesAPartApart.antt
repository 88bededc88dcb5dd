-- The derivation of its typing.
use Rattle.std.proofs.Common.{refl}
use Rattle.campl_types.specs.World.{World, world_of}
use Rattle.campl_types.specs.Linear.{ProcessIsTyped}
use Rattle.campl_types.specs.Typed.{IsTyped}
use Rattle.typed_sources.proofs.Actions.{halt, halt-alone}
use Rattle.typed_sources.proofs.Lasts.{plug, part, no-parts, process}
use Rattle.typed_sources.specs.LeavesAPartApart.{run_process, leaves_a_part_apart}

abbrev w : World
w = world_of leaves_a_part_apart

run_process-typed : ProcessIsTyped w run_process
run_process-typed =
    process w run_process refl refl refl refl refl
    (plug refl refl refl
    (part
    (halt refl refl refl)
    (part
    (halt refl refl refl)
    (part
    (halt-alone refl)
    no-parts))))

pub typed : IsTyped leaves_a_part_apart
typed =
    record {
      declared = refl;
      functions = (tt, tt);
      processes = (run_process-typed, tt);
    }
