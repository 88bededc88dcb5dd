-- The derivation of its typing.
use Rattle.std.proofs.Common.{refl}
use Rattle.campl_types.specs.World.{World, world_of}
use Rattle.campl_types.specs.Linear.{ProcessIsTyped}
use Rattle.campl_types.specs.Typed.{IsTyped}
use Rattle.typed_sources.proofs.Actions.{put, get, hput, close, halt}
use Rattle.typed_sources.proofs.Lasts.{plug, part, no-parts, process}
use Rattle.typed_sources.specs.SendsAhead.{run_process, sends_ahead}

abbrev w : World
w = world_of sends_ahead

run_process-typed : ProcessIsTyped w run_process
run_process-typed =
    process w run_process refl refl refl refl refl
    (plug refl refl refl
    (part
    (put refl refl refl
    (close refl refl
    (hput refl refl refl
    (put refl refl refl
    (hput refl refl refl
    (halt refl refl refl))))))
    (part
    (hput refl refl refl
    (get refl refl
    (get refl refl
    (close refl refl
    (hput refl refl refl
    (halt refl refl refl))))))
    no-parts)))

pub typed : IsTyped sends_ahead
typed =
    record {
      declared = refl;
      functions = (tt, tt);
      processes = (run_process-typed, tt);
    }
