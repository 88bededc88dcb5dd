-- There is no derivation of its typing: `b` is held where `a` is halted.
use Rattle.std.proofs.Common.{refl, codes}
use Rattle.campl_types.specs.World.{world_of}
use Rattle.campl_types.specs.Typed.{IsTyped}
use Rattle.typed_sources.proofs.Undone.{of-process, after-hput, halts-holding}
use Rattle.typed_sources.specs.LeavesAChannel.{run_process, leaves_a_channel}

pub refused : IsTyped leaves_a_channel → ⊥
refused h = halts-holding (after-hput (of-process (world_of leaves_a_channel) run_process h.processes.0) refl refl refl) (codes "b") refl refl
