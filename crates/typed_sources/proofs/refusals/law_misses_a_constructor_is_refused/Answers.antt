use Rattle.std.proofs.Common.{refl}
use Rattle.typed_sources.proofs.MissesAConstructor.{refused}
use Rattle.typed_sources.proofs.refusals.law_misses_a_constructor_is_refused.Goals as goal

pub returns : goal.returns
returns c = (refl, refused, refl)
