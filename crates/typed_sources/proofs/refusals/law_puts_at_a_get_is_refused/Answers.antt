use Rattle.std.proofs.Common.{refl}
use Rattle.typed_sources.proofs.PutsAtAGet.{refused}
use Rattle.typed_sources.proofs.refusals.law_puts_at_a_get_is_refused.Goals as goal

pub returns : goal.returns
returns c = (refl, refused, refl)
