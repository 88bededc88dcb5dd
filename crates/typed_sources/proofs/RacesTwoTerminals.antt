-- The derivation of its typing.
use Rattle.std.proofs.Common.{refl}
use Rattle.campl_types.specs.World.{World, world_of}
use Rattle.campl_types.specs.Linear.{ProcessIsTyped}
use Rattle.campl_types.specs.Typed.{IsTyped}
use Rattle.typed_sources.proofs.Actions.{put, get, hput, close, halt}
use Rattle.typed_sources.proofs.Lasts.{race, branch, no-branches, call, process}
use Rattle.campl_tree.specs.Plain.SeqType as s
use Rattle.typed_sources.specs.RacesTwoTerminals.{report_process, run_process, races_two_terminals}

abbrev w : World
w = world_of races_two_terminals

report_process-typed : ProcessIsTyped w report_process
report_process-typed =
    process w report_process refl refl refl refl refl
    (hput refl refl refl
    (put refl refl (_, refl, refl)
    (hput refl refl refl
    (close refl refl
    (hput refl refl refl
    (close refl refl
    (hput refl refl refl
    (halt refl refl refl))))))))

run_process-typed : ProcessIsTyped w run_process
run_process-typed =
    process w run_process refl refl refl refl refl
    (hput refl refl refl
    (hput refl refl refl
    (race refl refl
    (branch refl
    (get refl refl
    (get refl refl
    (call refl ((s.Char, refl, (_, refl, refl), (_, refl, refl)), tt) (_, refl, refl, tt) (_, refl, refl, (_, refl, refl, tt)) refl refl)))
    (branch refl
    (get refl refl
    (get refl refl
    (call refl ((s.Char, refl, (_, refl, refl), (_, refl, refl)), tt) (_, refl, refl, tt) (_, refl, refl, (_, refl, refl, tt)) refl refl)))
    no-branches)))))

pub typed : IsTyped races_two_terminals
typed =
    record {
      declared = refl;
      functions = (tt, (tt, tt));
      processes = (report_process-typed, (run_process-typed, tt));
    }
