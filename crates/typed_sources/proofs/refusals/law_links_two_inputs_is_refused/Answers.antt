use Rattle.std.proofs.Common.{refl}
use Rattle.typed_sources.proofs.LinksTwoInputs.{refused}
use Rattle.typed_sources.proofs.refusals.law_links_two_inputs_is_refused.Goals as goal

pub returns : goal.returns
returns c = (refl, refused, refl)
