-- The derivation of its typing.
use Rattle.std.proofs.Common.{refl, []}
use Rattle.campl_types.specs.Prelude.{letters}
use Rattle.campl_types.specs.World.{World, world_of}
use Rattle.campl_types.specs.Sequential.{FunctionIsTyped}
use Rattle.campl_types.specs.Linear.{ProcessIsTyped}
use Rattle.campl_types.specs.Typed.{IsTyped}
use Rattle.typed_sources.proofs.Actions.{put, get, hput, close, halt}
use Rattle.typed_sources.proofs.Lasts.{hcase, row, no-rows, plug, part, no-parts, match, when, no-cases, call, process}
use Rattle.campl_tree.specs.Plain.SeqType as s
use Rattle.typed_sources.specs.Bank.{number_function, show_function, cell_process, teller_process, run_process, bank}

abbrev w : World
w = world_of bank

number_function-typed : FunctionIsTyped w number_function
number_function-typed = (
  (
    (_, refl, refl, (_, refl, refl)),
    (
      (_, refl, refl, (_, refl, ([], refl, refl, ((refl, (refl, (refl, refl, (_, refl, refl)), (refl, (_, refl, refl))), refl), ((_, refl, refl), tt)), tt))),
      tt,
    ),
  ),
  refl,
)

show_function-typed : FunctionIsTyped w show_function
show_function-typed = (
  (
    (_, refl, refl, (s.Bool, (s.Int, tt, refl, (_, refl, refl), refl), (_, refl, refl, (s.Char, refl, (refl, (refl, refl, (_, refl, refl))), tt), (_, refl, refl, (s.Char, refl, (_, refl, ([], refl, refl, ((refl, (_, refl, refl), refl), tt), tt)), (s.Char, refl, (refl, (refl, refl, (refl, (_, refl, refl), refl))), tt)), tt)), refl)),
    tt,
  ),
  refl,
)

cell_process-typed : ProcessIsTyped w cell_process
cell_process-typed =
    process w cell_process refl refl refl refl refl
    (hcase refl refl (refl, refl)
    (row refl
    (get refl refl
    (call refl ((refl, (_, refl, refl), (_, refl, refl)), tt) (_, refl, refl, tt) tt refl refl))
    (row refl
    (put refl refl (_, refl, refl)
    (call refl ((_, refl, refl), tt) (_, refl, refl, tt) tt refl refl))
    (row refl
    (put refl refl (_, refl, refl)
    (halt refl refl refl))
    no-rows))))

teller_process-typed : ProcessIsTyped w teller_process
teller_process-typed =
    process w teller_process refl refl refl refl refl
    (hput refl refl refl
    (get refl refl
    (match letters (_, refl, refl)
    (when refl refl
    (hput refl refl refl
    (get refl refl
    (close refl refl
    (put refl refl (_, refl, refl)
    (close refl refl
    (hput refl refl refl
    (halt refl refl refl)))))))
    (when refl refl
    (hput refl refl refl
    (get refl refl
    (hput refl refl refl
    (put refl refl (_, refl, ([], refl, refl, ((_, refl, refl), tt), tt))
    (call refl tt (_, refl, refl, tt) (_, refl, refl, (_, refl, refl, tt)) refl refl)))))
    (when refl refl
    (hput refl refl refl
    (put refl refl (_, refl, ([], refl, refl, (refl, ((_, refl, refl), tt)), tt))
    (call refl tt (_, refl, refl, tt) (_, refl, refl, (_, refl, refl, tt)) refl refl)))
    no-cases)))
    refl)))

run_process-typed : ProcessIsTyped w run_process
run_process-typed =
    process w run_process refl refl refl refl refl
    (plug refl refl refl
    (part
    (call refl (refl, tt) (_, refl, refl, tt) tt refl refl)
    (part
    (call refl (refl, tt) (_, refl, refl, tt) tt refl refl)
    (part
    (call refl tt (_, refl, refl, tt) (_, refl, refl, (_, refl, refl, tt)) refl refl)
    (part
    (call refl tt (_, refl, refl, tt) (_, refl, refl, (_, refl, refl, tt)) refl refl)
    (part
    (get refl refl
    (close refl refl
    (get refl refl
    (close refl refl
    (hput refl refl refl
    (put refl refl (s.Char, refl, refl, (_, refl, ([], refl, refl, ((refl, (_, refl, refl), (_, refl, refl)), tt), tt)))
    (hput refl refl refl
    (halt refl refl refl))))))))
    no-parts))))))

pub typed : IsTyped bank
typed =
    record {
      declared = refl;
      functions = (tt, (number_function-typed, (show_function-typed, (tt, (tt, (tt, tt))))));
      processes = (tt, (tt, (tt, (cell_process-typed, (teller_process-typed, (run_process-typed, tt))))));
    }
