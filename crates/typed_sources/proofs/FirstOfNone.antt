-- The derivation of its typing.
use Rattle.std.proofs.Common.{refl, [], ◌∷◌, codes}
use Rattle.campl_types.specs.SameType.{nowhere}
use Rattle.campl_types.specs.Prelude.{letters}
use Rattle.campl_types.specs.World.{World, world_of}
use Rattle.campl_types.specs.Sequential.{FunctionIsTyped}
use Rattle.campl_types.specs.Linear.{ProcessIsTyped}
use Rattle.campl_types.specs.Typed.{IsTyped}
use Rattle.typed_sources.proofs.Actions.{put, get, hput, close, halt}
use Rattle.typed_sources.proofs.Lasts.{plug, part, no-parts, process}
use Rattle.campl_tree.specs.Plain.SeqType as s
use Rattle.typed_sources.specs.FirstOfNone.{first_function, either_function, run_process, first_of_none}

abbrev w : World
w = world_of first_of_none

first_function-typed : FunctionIsTyped w first_function
first_function-typed = (
  (
    (_, refl, refl, (_, _, _, refl, ((s.Variable nowhere (codes "a") ∷ []), refl, refl, tt, tt))),
    (
      (_, refl, refl, (_, _, _, refl, ((s.Variable nowhere (codes "a") ∷ []), refl, refl, ((_, refl, refl), tt), tt))),
      tt,
    ),
  ),
  refl,
)

either_function-typed : FunctionIsTyped w either_function
either_function-typed = (
  (
    (_, refl, refl, (_, refl, refl)),
    (
      (_, refl, refl, (_, refl, refl)),
      tt,
    ),
  ),
  refl,
)

run_process-typed : ProcessIsTyped w run_process
run_process-typed =
    process w run_process refl refl refl refl refl
    (plug refl refl refl
    (part
    (put refl refl (_, refl, ((letters ∷ []), refl, refl, ((letters, refl), tt), tt))
    (halt refl refl refl))
    (part
    (get refl refl
    (close refl refl
    (hput refl refl refl
    (put refl refl (_, refl, ((letters ∷ []), refl, refl, ((_, refl, refl), (refl, tt)), tt))
    (hput refl refl refl
    (halt refl refl refl))))))
    no-parts)))

pub typed : IsTyped first_of_none
typed =
    record {
      declared = refl;
      functions = (tt, (first_function-typed, (either_function-typed, (tt, tt))));
      processes = (tt, (tt, (tt, (run_process-typed, tt))));
    }
