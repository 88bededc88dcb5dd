-- There is no derivation of its typing: `x` is held where a new channel takes the name.
use Rattle.std.proofs.Common.{sym}
use Rattle.std.proofs.lemmas.Option.{none-some}
use Rattle.campl_types.specs.Typed.{IsTyped}
use Rattle.typed_sources.specs.ForksToAHeldName.{forks_to_a_held_name}

pub refused : IsTyped forks_to_a_held_name → ⊥
refused h = none-some _ (sym h.processes.0.5.1.6.0)
