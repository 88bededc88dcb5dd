-- The derivation of its typing.
use Rattle.std.proofs.Common.{refl}
use Rattle.campl_types.specs.World.{World, world_of}
use Rattle.campl_types.specs.Linear.{ProcessIsTyped}
use Rattle.campl_types.specs.Typed.{IsTyped}
use Rattle.typed_sources.proofs.Actions.{put, get, hput, close, halt}
use Rattle.typed_sources.proofs.Lasts.{plug, part, no-parts, join, process}
use Rattle.campl_tree.specs.Plain.SeqType as s
use Rattle.typed_sources.specs.LinksBehindASend.{run_process, links_behind_a_send}

abbrev w : World
w = world_of links_behind_a_send

run_process-typed : ProcessIsTyped w run_process
run_process-typed =
    process w run_process refl refl refl refl refl
    (plug refl refl refl
    (part
    (put refl refl refl
    (halt refl refl refl))
    (part
    (put refl refl refl
    (join refl refl refl (refl, refl) refl))
    (part
    (get refl refl
    (get refl refl
    (close refl refl
    (hput refl refl refl
    (put refl refl (s.Char, refl, (_, refl, refl), (_, refl, refl))
    (hput refl refl refl
    (halt refl refl refl)))))))
    no-parts))))

pub typed : IsTyped links_behind_a_send
typed =
    record {
      declared = refl;
      functions = (tt, tt);
      processes = (run_process-typed, tt);
    }
