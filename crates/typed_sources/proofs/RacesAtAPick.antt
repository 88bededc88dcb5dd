-- There is no derivation of its typing: a branch doesn't begin by receiving.
use Rattle.std.proofs.Common.{true≢false, sym}
use Rattle.campl_types.specs.Typed.{IsTyped}
use Rattle.typed_sources.specs.RacesAtAPick.{races_at_a_pick}

pub refused : IsTyped races_at_a_pick → ⊥
refused h = true≢false (sym h.processes.0.5.2.0)
