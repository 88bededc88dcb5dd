-- There is no derivation of its typing: behind `StringTerminalGet` the output side gets.
use Rattle.std.proofs.Common.{refl}
use Rattle.campl_types.specs.World.{world_of}
use Rattle.campl_types.specs.Typed.{IsTyped}
use Rattle.typed_sources.proofs.Undone.{of-process, after-hput, puts-at-get}
use Rattle.typed_sources.specs.PutsAtAGet.{run_process, puts_at_a_get}

pub refused : IsTyped puts_at_a_get → ⊥
refused h = puts-at-get (after-hput (of-process (world_of puts_at_a_get) run_process h.processes.0) refl refl refl) refl refl
