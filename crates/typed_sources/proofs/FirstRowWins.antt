-- The derivation of its typing.
use Rattle.std.proofs.Common.{refl}
use Rattle.campl_types.specs.World.{World, world_of}
use Rattle.campl_types.specs.Sequential.{FunctionIsTyped}
use Rattle.campl_types.specs.Linear.{ProcessIsTyped}
use Rattle.campl_types.specs.Typed.{IsTyped}
use Rattle.typed_sources.proofs.Actions.{halt-alone}
use Rattle.typed_sources.proofs.Lasts.{process}
use Rattle.typed_sources.specs.FirstRowWins.{name_function, run_process, first_row_wins}

abbrev w : World
w = world_of first_row_wins

name_function-typed : FunctionIsTyped w name_function
name_function-typed = (
  (
    (_, refl, refl, refl),
    (
      (_, refl, refl, refl),
      tt,
    ),
  ),
  refl,
)

run_process-typed : ProcessIsTyped w run_process
run_process-typed =
    process w run_process refl refl refl refl refl
    (halt-alone refl)

pub typed : IsTyped first_row_wins
typed =
    record {
      declared = refl;
      functions = (tt, (name_function-typed, (tt, tt)));
      processes = (tt, (tt, (run_process-typed, tt)));
    }
