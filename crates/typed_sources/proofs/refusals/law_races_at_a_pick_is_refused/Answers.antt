use Rattle.std.proofs.Common.{refl}
use Rattle.typed_sources.proofs.RacesAtAPick.{refused}
use Rattle.typed_sources.proofs.refusals.law_races_at_a_pick_is_refused.Goals as goal

pub returns : goal.returns
returns c = (refl, refused, refl)
