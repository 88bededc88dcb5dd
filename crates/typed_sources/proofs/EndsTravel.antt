-- The derivation of its typing.
use Rattle.std.proofs.Common.{refl, [], ◌∷◌, codes}
use Rattle.campl_types.specs.World.{World, world_of}
use Rattle.campl_types.specs.Linear.{ProcessIsTyped}
use Rattle.campl_types.specs.Typed.{IsTyped}
use Rattle.typed_sources.proofs.Actions.{put, get, hput, split, close, halt}
use Rattle.typed_sources.proofs.Lasts.{fork, plug, part, no-parts, process}
use Rattle.typed_sources.specs.EndsTravel.{run_process, ends_travel}

abbrev w : World
w = world_of ends_travel

run_process-typed : ProcessIsTyped w run_process
run_process-typed =
    process w run_process refl refl refl refl refl
    (plug refl refl refl
    (part
    (fork (codes "k1" ∷ []) refl refl (refl, refl, refl)
    (get refl refl
    (close refl refl
    (hput refl refl refl
    (put refl refl (_, refl, refl)
    (hput refl refl refl
    (halt refl refl refl))))))
    (get refl refl
    (close refl refl
    (hput refl refl refl
    (put refl refl (_, refl, refl)
    (hput refl refl refl
    (halt refl refl refl)))))))
    (part
    (split refl refl (refl, refl, refl)
    (put refl refl refl
    (close refl refl
    (put refl refl refl
    (halt refl refl refl)))))
    no-parts)))

pub typed : IsTyped ends_travel
typed =
    record {
      declared = refl;
      functions = (tt, tt);
      processes = (run_process-typed, tt);
    }
