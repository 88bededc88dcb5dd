-- The derivation of its typing.
use Rattle.std.proofs.Common.{refl}
use Rattle.campl_types.specs.World.{World, world_of}
use Rattle.campl_types.specs.Linear.{ProcessIsTyped}
use Rattle.campl_types.specs.Typed.{IsTyped}
use Rattle.typed_sources.proofs.Actions.{put, hput, halt}
use Rattle.typed_sources.proofs.Lasts.{process}
use Rattle.typed_sources.specs.PrintsHello.{run_process, prints_hello}

abbrev w : World
w = world_of prints_hello

run_process-typed : ProcessIsTyped w run_process
run_process-typed =
    process w run_process refl refl refl refl refl
    (hput refl refl refl
    (put refl refl refl
    (hput refl refl refl
    (halt refl refl refl))))

pub typed : IsTyped prints_hello
typed =
    record {
      declared = refl;
      functions = (tt, tt);
      processes = (run_process-typed, tt);
    }
