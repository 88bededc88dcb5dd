-- The derivation of its typing.
use Rattle.std.proofs.Common.{refl}
use Rattle.campl_types.specs.World.{World, world_of}
use Rattle.campl_types.specs.Linear.{ProcessIsTyped}
use Rattle.campl_types.specs.Typed.{IsTyped}
use Rattle.typed_sources.proofs.Actions.{close, halt}
use Rattle.typed_sources.proofs.Lasts.{plug, part, no-parts, process}
use Rattle.typed_sources.specs.SharesTwoChannels.{run_process, shares_two_channels}

abbrev w : World
w = world_of shares_two_channels

run_process-typed : ProcessIsTyped w run_process
run_process-typed =
    process w run_process refl refl refl refl refl
    (plug refl refl refl
    (part
    (close refl refl
    (halt refl refl refl))
    (part
    (close refl refl
    (halt refl refl refl))
    no-parts)))

pub typed : IsTyped shares_two_channels
typed =
    record {
      declared = refl;
      functions = (tt, tt);
      processes = (run_process-typed, tt);
    }
