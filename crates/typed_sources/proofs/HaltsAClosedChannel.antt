-- There is no derivation of its typing: `a` was closed, and isn't held where it is halted.
use Rattle.std.proofs.Common.{refl}
use Rattle.campl_types.specs.World.{world_of}
use Rattle.campl_types.specs.Typed.{IsTyped}
use Rattle.typed_sources.proofs.Undone.{of-process, after-hput, after-close, halts-on-none}
use Rattle.typed_sources.specs.HaltsAClosedChannel.{run_process, halts_a_closed_channel}

pub refused : IsTyped halts_a_closed_channel → ⊥
refused h = halts-on-none (after-close (after-hput (of-process (world_of halts_a_closed_channel) run_process h.processes.0) refl refl refl)) refl
