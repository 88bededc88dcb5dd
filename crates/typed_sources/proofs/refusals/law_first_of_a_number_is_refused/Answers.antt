use Rattle.std.proofs.Common.{refl}
use Rattle.typed_sources.proofs.FirstOfANumber.{refused}
use Rattle.typed_sources.proofs.refusals.law_first_of_a_number_is_refused.Goals as goal

pub returns : goal.returns
returns c = (refl, refused, refl)
