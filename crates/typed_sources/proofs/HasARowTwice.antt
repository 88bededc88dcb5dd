-- There is no derivation of its typing: `Open` has two rows.
use Rattle.std.proofs.Common.{refl, true≢false, sym}
use Rattle.campl_types.specs.World.{world_of}
use Rattle.typed_sources.proofs.Undone.{of-process, each-once}
use Rattle.campl_types.specs.Typed.{IsTyped}
use Rattle.typed_sources.specs.HasARowTwice.{wait_process, has_a_row_twice}

pub refused : IsTyped has_a_row_twice → ⊥
refused h = true≢false (sym (each-once (of-process (world_of has_a_row_twice) wait_process h.processes.1.0) refl refl).0)
