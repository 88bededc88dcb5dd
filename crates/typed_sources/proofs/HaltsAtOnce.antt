-- The derivation of its typing.
use Rattle.std.proofs.Common.{refl}
use Rattle.campl_types.specs.World.{World, world_of}
use Rattle.campl_types.specs.Linear.{ProcessIsTyped}
use Rattle.campl_types.specs.Typed.{IsTyped}
use Rattle.typed_sources.proofs.Actions.{halt-alone}
use Rattle.typed_sources.proofs.Lasts.{process}
use Rattle.typed_sources.specs.HaltsAtOnce.{run_process, halts_at_once}

abbrev w : World
w = world_of halts_at_once

run_process-typed : ProcessIsTyped w run_process
run_process-typed =
    process w run_process refl refl refl refl refl
    (halt-alone refl)

pub typed : IsTyped halts_at_once
typed =
    record {
      declared = refl;
      functions = (tt, tt);
      processes = (run_process-typed, tt);
    }
