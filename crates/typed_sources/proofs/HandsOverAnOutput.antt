-- There is no derivation of its typing: `y` is held on the output side, and handed over as an input.
use Rattle.std.proofs.Common.{refl}
use Rattle.campl_types.specs.World.{world_of}
use Rattle.typed_sources.proofs.Undone.{of-process, handed-inputs}
use Rattle.campl_types.specs.Typed.{IsTyped}
use Rattle.typed_sources.specs.HandsOverAnOutput.{gives_process, hands_over_an_output}

pub refused : IsTyped hands_over_an_output → ⊥
refused h = let held = (handed-inputs (of-process (world_of hands_over_an_output) gives_process h.processes.1.0) refl).1 in cc
