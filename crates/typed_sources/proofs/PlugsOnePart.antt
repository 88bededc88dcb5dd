-- There is no derivation of its typing: a plug has two parts at least.
use Rattle.std.proofs.Common.{arith}
use Rattle.campl_types.specs.Typed.{IsTyped}
use Rattle.typed_sources.specs.PlugsOnePart.{plugs_one_part}

pub refused : IsTyped plugs_one_part → ⊥
refused h = let two = h.processes.0.5.0.0 in omega arith
