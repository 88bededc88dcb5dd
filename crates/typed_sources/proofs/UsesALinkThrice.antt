-- There is no derivation of its typing: `c` stands among the inputs of two parts.
use Rattle.std.proofs.Common.{arith, codes}
use Rattle.campl_types.specs.Typed.{IsTyped}
use Rattle.typed_sources.specs.UsesALinkThrice.{uses_a_link_thrice}

pub refused : IsTyped uses_a_link_thrice → ⊥
refused h = let twice = (h.processes.0.5.2.0 (codes "c")).1 in omega arith
