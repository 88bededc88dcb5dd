-- The derivation of its typing.
use Rattle.std.proofs.Common.{refl}
use Rattle.campl_types.specs.World.{World, world_of}
use Rattle.campl_types.specs.Linear.{ProcessIsTyped}
use Rattle.campl_types.specs.Typed.{IsTyped}
use Rattle.typed_sources.proofs.Actions.{put, get, hput, close, halt}
use Rattle.typed_sources.proofs.Lasts.{plug, part, no-parts, join, process}
use Rattle.typed_sources.specs.LinksThroughNeg.{run_process, links_through_neg}

abbrev w : World
w = world_of links_through_neg

run_process-typed : ProcessIsTyped w run_process
run_process-typed =
    process w run_process refl refl refl refl refl
    (plug refl refl refl
    (part
    (join refl refl refl (refl, refl) refl)
    (part
    (join refl refl refl (refl, refl) refl)
    (part
    (get refl refl
    (close refl refl
    (hput refl refl refl
    (put refl refl (_, refl, refl)
    (hput refl refl refl
    (halt refl refl refl))))))
    (part
    (join refl refl refl (refl, refl) refl)
    (part
    (put refl refl refl
    (halt refl refl refl))
    no-parts))))))

pub typed : IsTyped links_through_neg
typed =
    record {
      declared = refl;
      functions = (tt, tt);
      processes = (run_process-typed, tt);
    }
