-- There is no derivation of its typing: `Shut` has no row.
use Rattle.std.proofs.Common.{refl, true≢false, sym}
use Rattle.campl_types.specs.World.{world_of}
use Rattle.typed_sources.proofs.Undone.{of-process, each-once}
use Rattle.campl_types.specs.Typed.{IsTyped}
use Rattle.typed_sources.specs.MissesAConstructor.{wait_process, misses_a_constructor}

pub refused : IsTyped misses_a_constructor → ⊥
refused h = true≢false (sym (each-once (of-process (world_of misses_a_constructor) wait_process h.processes.1.0) refl refl).1)
