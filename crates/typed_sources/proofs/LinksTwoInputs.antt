-- There is no derivation of its typing: both ends of an identity are inputs.
use Rattle.std.proofs.Common.{refl}
use Rattle.campl_types.specs.World.{world_of}
use Rattle.typed_sources.proofs.Undone.{of-process, joined}
use Rattle.campl_types.specs.Typed.{IsTyped}
use Rattle.typed_sources.specs.LinksTwoInputs.{both_process, links_two_inputs}

pub refused : IsTyped links_two_inputs → ⊥
refused h = let same = (joined (of-process (world_of links_two_inputs) both_process h.processes.0) refl refl).0 in cc
