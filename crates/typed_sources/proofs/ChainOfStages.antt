-- The derivation of its typing.
use Rattle.std.proofs.Common.{refl, []}
use Rattle.campl_types.specs.World.{World, world_of}
use Rattle.campl_types.specs.Sequential.{FunctionIsTyped}
use Rattle.campl_types.specs.Linear.{ProcessIsTyped}
use Rattle.campl_types.specs.Typed.{IsTyped}
use Rattle.typed_sources.proofs.Actions.{put, get, hput, close, halt}
use Rattle.typed_sources.proofs.Lasts.{hcase, row, no-rows, plug, part, no-parts, match, when, no-cases, join, call, process}
use Rattle.campl_tree.specs.Plain.SeqType as s
use Rattle.typed_sources.specs.ChainOfStages.{show_function, feed_process, step_process, chain_process, sum_process, run_process, chain_of_stages}

abbrev w : World
w = world_of chain_of_stages

show_function-typed : FunctionIsTyped w show_function
show_function-typed = (
  (
    (_, refl, refl, (s.Bool, (s.Int, tt, refl, (_, refl, refl), refl), (_, refl, refl, (s.Char, refl, (refl, (refl, refl, (_, refl, refl))), tt), (_, refl, refl, (s.Char, refl, (_, refl, ([], refl, refl, ((refl, (_, refl, refl), refl), tt), tt)), (s.Char, refl, (refl, (refl, refl, (refl, (_, refl, refl), refl))), tt)), tt)), refl)),
    tt,
  ),
  refl,
)

feed_process-typed : ProcessIsTyped w feed_process
feed_process-typed =
    process w feed_process refl refl refl refl refl
    (match s.Bool (s.Int, tt, refl, (_, refl, refl), refl)
    (when refl refl
    (hput refl refl refl
    (halt refl refl refl))
    (when refl refl
    (hput refl refl refl
    (put refl refl (_, refl, refl)
    (call refl ((refl, (_, refl, refl), refl), tt) tt (_, refl, refl, tt) refl refl)))
    no-cases))
    refl)

step_process-typed : ProcessIsTyped w step_process
step_process-typed =
    process w step_process refl refl refl refl refl
    (hcase refl refl (refl, refl)
    (row refl
    (get refl refl
    (hput refl refl refl
    (put refl refl (refl, (_, refl, refl), refl)
    (call refl tt (_, refl, refl, tt) (_, refl, refl, tt) refl refl))))
    (row refl
    (close refl refl
    (hput refl refl refl
    (halt refl refl refl)))
    no-rows)))

chain_process-typed : ProcessIsTyped w chain_process
chain_process-typed =
    process w chain_process refl refl refl refl refl
    (match s.Bool (s.Int, tt, refl, (_, refl, refl), refl)
    (when refl refl
    (join refl refl refl (refl, refl) refl)
    (when refl refl
    (plug refl refl refl
    (part
    (call refl tt (_, refl, refl, tt) (_, refl, refl, tt) refl refl)
    (part
    (call refl ((refl, (_, refl, refl), refl), tt) (_, refl, refl, tt) (_, refl, refl, tt) refl refl)
    no-parts)))
    no-cases))
    refl)

sum_process-typed : ProcessIsTyped w sum_process
sum_process-typed =
    process w sum_process refl refl refl refl refl
    (hcase refl refl (refl, refl)
    (row refl
    (get refl refl
    (call refl ((refl, (_, refl, refl), (_, refl, refl)), tt) (_, refl, refl, (_, refl, refl, tt)) tt refl refl))
    (row refl
    (close refl refl
    (hput refl refl refl
    (put refl refl (s.Char, refl, refl, (_, refl, ([], refl, refl, ((_, refl, refl), tt), tt)))
    (hput refl refl refl
    (halt refl refl refl)))))
    no-rows)))

run_process-typed : ProcessIsTyped w run_process
run_process-typed =
    process w run_process refl refl refl refl refl
    (plug refl refl refl
    (part
    (call refl (refl, tt) tt (_, refl, refl, tt) refl refl)
    (part
    (call refl (refl, tt) (_, refl, refl, tt) (_, refl, refl, tt) refl refl)
    (part
    (call refl (refl, tt) (_, refl, refl, (_, refl, refl, tt)) tt refl refl)
    no-parts))))

pub typed : IsTyped chain_of_stages
typed =
    record {
      declared = refl;
      functions = (tt, (show_function-typed, (tt, (tt, (tt, (tt, (tt, tt)))))));
      processes = (tt, (tt, (feed_process-typed, (step_process-typed, (chain_process-typed, (sum_process-typed, (run_process-typed, tt)))))));
    }
