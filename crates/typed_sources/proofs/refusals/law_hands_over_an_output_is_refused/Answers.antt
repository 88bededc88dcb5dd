use Rattle.std.proofs.Common.{refl}
use Rattle.typed_sources.proofs.HandsOverAnOutput.{refused}
use Rattle.typed_sources.proofs.refusals.law_hands_over_an_output_is_refused.Goals as goal

pub returns : goal.returns
returns c = (refl, refused, refl)
