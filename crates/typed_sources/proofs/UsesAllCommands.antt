-- The derivation of its typing.
use Rattle.std.proofs.Common.{refl, []}
use Rattle.campl_types.specs.Prelude.{letters}
use Rattle.campl_types.specs.World.{World, world_of}
use Rattle.campl_types.specs.Linear.{ProcessIsTyped}
use Rattle.campl_types.specs.Typed.{IsTyped}
use Rattle.typed_sources.proofs.Actions.{put, get, hput, split, close, halt}
use Rattle.typed_sources.proofs.Lasts.{hcase, row, no-rows, fork, plug, part, no-parts, match, when, no-cases, join, call, process}
use Rattle.campl_tree.specs.Plain.SeqType as s
use Rattle.typed_sources.specs.UsesAllCommands.{answers_process, turns_process, over_process, ends_process, both_process, run_process, ends_there_process, uses_all_commands}

abbrev w : World
w = world_of uses_all_commands

answers_process-typed : ProcessIsTyped w answers_process
answers_process-typed =
    process w answers_process refl refl refl refl refl
    (hcase refl refl (refl, refl)
    (row refl
    (get refl refl
    (match (s.Pair s.Int s.Bool) (s.Int, s.Bool, refl, (_, refl, refl), (s.Int, tt, refl, (_, refl, refl), refl))
    (when refl refl
    (put refl refl refl
    (call refl (refl, (refl, tt)) tt (_, refl, refl, tt) refl refl))
    (when refl refl
    (put refl refl refl
    (call refl ((refl, (_, refl, refl), refl), (refl, tt)) tt (_, refl, refl, tt) refl refl))
    no-cases))
    refl))
    (row refl
    (halt refl refl refl)
    no-rows)))

turns_process-typed : ProcessIsTyped w turns_process
turns_process-typed =
    process w turns_process refl refl refl refl refl
    (plug refl refl refl
    (part
    (join refl refl refl (refl, refl) refl)
    (part
    (get refl refl
    (hput refl refl refl
    (put refl refl (_, refl, refl)
    (call refl tt tt (_, refl, refl, (_, refl, refl, tt)) refl refl))))
    no-parts)))

over_process-typed : ProcessIsTyped w over_process
over_process-typed =
    process w over_process refl refl refl refl refl
    (hput refl refl refl
    (split refl refl (refl, refl, refl)
    (get refl refl
    (close refl refl
    (close refl refl
    (plug refl refl refl
    (part
    (put refl refl refl
    (hcase refl refl (refl, refl)
    (row refl
    (fork [] refl refl (refl, refl, refl)
    (halt refl refl refl)
    (put refl refl refl
    (halt refl refl refl)))
    (row refl
    (get refl refl
    (plug refl refl refl
    (part
    (call refl tt tt (_, refl, refl, tt) refl refl)
    (part
    (call refl tt (_, refl, refl, (_, refl, refl, tt)) tt refl refl)
    no-parts))))
    no-rows))))
    (part
    (join refl refl refl (refl, refl) refl)
    no-parts))))))))

ends_process-typed : ProcessIsTyped w ends_process
ends_process-typed =
    process w ends_process refl refl refl refl refl
    (plug refl refl refl
    (part
    (join refl refl refl (refl, refl) refl)
    (part
    (put refl refl refl
    (hcase refl refl (refl, refl)
    (row refl
    (get refl refl
    (plug refl refl refl
    (part
    (call refl tt tt (_, refl, refl, tt) refl refl)
    (part
    (call refl tt (_, refl, refl, (_, refl, refl, tt)) tt refl refl)
    no-parts))))
    (row refl
    (fork [] refl refl (refl, refl, refl)
    (halt refl refl refl)
    (put refl refl refl
    (halt refl refl refl)))
    no-rows))))
    no-parts)))

both_process-typed : ProcessIsTyped w both_process
both_process-typed =
    process w both_process refl refl refl refl refl
    (plug refl refl refl
    (part
    (join refl refl refl (refl, refl) refl)
    (part
    (join refl refl refl (refl, refl) refl)
    (part
    (close refl refl
    (get refl refl
    (hput refl refl refl
    (split refl refl (refl, refl, refl)
    (get refl refl
    (close refl refl
    (halt refl refl refl)))))))
    (part
    (get refl refl
    (hput refl refl refl
    (close refl refl
    (split refl refl (refl, refl, refl)
    (close refl refl
    (get refl refl
    (halt refl refl refl)))))))
    no-parts)))))

run_process-typed : ProcessIsTyped w run_process
run_process-typed =
    process w run_process refl refl refl refl refl
    (plug refl refl refl
    (part
    (call refl (refl, ((s.Int, tt, refl, refl, refl), tt)) tt (_, refl, refl, tt) refl refl)
    (part
    (fork [] refl refl (refl, refl, refl)
    (halt refl refl refl)
    (hcase refl refl (refl, refl)
    (row refl
    (halt refl refl refl)
    (row refl
    (get refl refl
    (match letters (_, refl, refl)
    (when refl refl
    (put refl refl (s.Int, s.Int, refl, refl, refl)
    (hcase refl refl (refl, refl)
    (row refl
    (get refl refl
    (put refl refl (s.Int, s.Int, refl, refl, refl)
    (call refl tt tt (_, refl, refl, tt) refl refl)))
    (row refl
    (halt refl refl refl)
    no-rows))))
    (when refl refl
    (put refl refl (s.Int, s.Int, refl, refl, refl)
    (call refl tt tt (_, refl, refl, tt) refl refl))
    no-cases))
    refl))
    no-rows))))
    (part
    (hput refl refl refl
    (put refl refl refl
    (get refl refl
    (split refl refl (refl, refl, refl)
    (close refl refl
    (hput refl refl refl
    (put refl refl (_, refl, refl)
    (get refl refl
    (hput refl refl refl
    (hput refl refl refl
    (close refl refl
    (halt refl refl refl))))))))))))
    no-parts))))

ends_there_process-typed : ProcessIsTyped w ends_there_process
ends_there_process-typed =
    process w ends_there_process refl refl refl refl refl
    (hcase refl refl (refl, refl)
    (row refl
    (halt refl refl refl)
    (row refl
    (get refl refl
    (put refl refl (s.Int, s.Int, refl, refl, refl)
    (call refl tt tt (_, refl, refl, tt) refl refl)))
    no-rows)))

pub typed : IsTyped uses_all_commands
typed =
    record {
      declared = refl;
      functions = (tt, (tt, (tt, (tt, (tt, (tt, (tt, (tt, (tt, tt)))))))));
      processes = (tt, (tt, (answers_process-typed, (turns_process-typed, (over_process-typed, (ends_process-typed, (both_process-typed, (run_process-typed, (ends_there_process-typed, tt)))))))));
    }
