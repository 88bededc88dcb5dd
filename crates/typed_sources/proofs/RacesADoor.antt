-- The derivation of its typing.
use Rattle.std.proofs.Common.{refl, []}
use Rattle.campl_types.specs.World.{World, world_of}
use Rattle.campl_types.specs.Linear.{ProcessIsTyped}
use Rattle.campl_types.specs.Typed.{IsTyped}
use Rattle.typed_sources.proofs.Actions.{put, hput, split, close, halt}
use Rattle.typed_sources.proofs.Lasts.{hcase, row, no-rows, fork, plug, part, no-parts, race, branch, no-branches, process}
use Rattle.typed_sources.specs.RacesADoor.{run_process, races_a_door}

abbrev w : World
w = world_of races_a_door

run_process-typed : ProcessIsTyped w run_process
run_process-typed =
    process w run_process refl refl refl refl refl
    (plug refl refl refl
    (part
    (hput refl refl refl
    (halt refl refl refl))
    (part
    (fork [] refl refl (refl, refl, refl)
    (halt refl refl refl)
    (halt refl refl refl))
    (part
    (race refl refl
    (branch refl
    (hcase refl refl (refl, refl)
    (row refl
    (close refl refl
    (split refl refl (refl, refl, refl)
    (close refl refl
    (close refl refl
    (hput refl refl refl
    (put refl refl refl
    (hput refl refl refl
    (halt refl refl refl))))))))
    no-rows))
    (branch refl
    (split refl refl (refl, refl, refl)
    (close refl refl
    (close refl refl
    (hput refl refl refl
    (put refl refl refl
    (hput refl refl refl
    (hcase refl refl (refl, refl)
    (row refl
    (close refl refl
    (halt refl refl refl))
    no-rows))))))))
    no-branches)))
    no-parts))))

pub typed : IsTyped races_a_door
typed =
    record {
      declared = refl;
      functions = (tt, (tt, tt));
      processes = (tt, (run_process-typed, tt));
    }
