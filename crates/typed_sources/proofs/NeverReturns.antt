-- The derivation of its typing.
use Rattle.std.proofs.Common.{refl, []}
use Rattle.campl_types.specs.World.{World, world_of}
use Rattle.campl_types.specs.Sequential.{FunctionIsTyped}
use Rattle.campl_types.specs.Linear.{ProcessIsTyped}
use Rattle.campl_types.specs.Typed.{IsTyped}
use Rattle.typed_sources.proofs.Actions.{put, get, hput, close, halt}
use Rattle.typed_sources.proofs.Lasts.{plug, part, no-parts, process}
use Rattle.typed_sources.specs.NeverReturns.{loop_function, run_process, never_returns}

abbrev w : World
w = world_of never_returns

loop_function-typed : FunctionIsTyped w loop_function
loop_function-typed = (
  (
    (_, refl, refl, (_, refl, ([], refl, refl, ((refl, (_, refl, refl), refl), tt), tt))),
    tt,
  ),
  refl,
)

run_process-typed : ProcessIsTyped w run_process
run_process-typed =
    process w run_process refl refl refl refl refl
    (plug refl refl refl
    (part
    (put refl refl (_, refl, ([], refl, refl, (refl, tt), tt))
    (halt refl refl refl))
    (part
    (hput refl refl refl
    (put refl refl refl
    (get refl refl
    (close refl refl
    (hput refl refl refl
    (halt refl refl refl))))))
    no-parts)))

pub typed : IsTyped never_returns
typed =
    record {
      declared = refl;
      functions = (loop_function-typed, (tt, tt));
      processes = (tt, (run_process-typed, tt));
    }
