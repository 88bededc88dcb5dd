-- The derivation of its typing.
use Rattle.std.proofs.Common.{refl, []}
use Rattle.campl_types.specs.World.{World, world_of}
use Rattle.campl_types.specs.Sequential.{FunctionIsTyped}
use Rattle.campl_types.specs.Linear.{ProcessIsTyped}
use Rattle.campl_types.specs.Typed.{IsTyped}
use Rattle.typed_sources.proofs.Actions.{put, hput, halt}
use Rattle.typed_sources.proofs.Lasts.{process}
use Rattle.campl_tree.specs.Plain.SeqType as s
use Rattle.typed_sources.specs.FillsAText.{fill_function, run_process, fills_a_text}

abbrev w : World
w = world_of fills_a_text

fill_function-typed : FunctionIsTyped w fill_function
fill_function-typed = (
  (
    (_, refl, refl, (s.Char, refl)),
    (
      (_, refl, refl, (s.Char, refl, refl, (_, refl, ([], refl, refl, ((refl, (_, refl, refl), refl), tt), tt)))),
      tt,
    ),
  ),
  refl,
)

run_process-typed : ProcessIsTyped w run_process
run_process-typed =
    process w run_process refl refl refl refl refl
    (hput refl refl refl
    (put refl refl (_, refl, ([], refl, refl, (refl, tt), tt))
    (hput refl refl refl
    (halt refl refl refl))))

pub typed : IsTyped fills_a_text
typed =
    record {
      declared = refl;
      functions = (fill_function-typed, (tt, tt));
      processes = (tt, (run_process-typed, tt));
    }
