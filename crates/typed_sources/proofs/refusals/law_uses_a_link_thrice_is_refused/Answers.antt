use Rattle.std.proofs.Common.{refl}
use Rattle.typed_sources.proofs.UsesALinkThrice.{refused}
use Rattle.typed_sources.proofs.refusals.law_uses_a_link_thrice_is_refused.Goals as goal

pub returns : goal.returns
returns c = (refl, refused, refl)
