use Rattle.std.proofs.Common.{refl}
use Rattle.typed_sources.proofs.HasARowTwice.{refused}
use Rattle.typed_sources.proofs.refusals.law_has_a_row_twice_is_refused.Goals as goal

pub returns : goal.returns
returns c = (refl, refused, refl)
