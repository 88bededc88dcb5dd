use Rattle.std.proofs.Common.{refl}
use Rattle.typed_sources.proofs.ForksToAHeldName.{refused}
use Rattle.typed_sources.proofs.refusals.law_forks_to_a_held_name_is_refused.Goals as goal

pub returns : goal.returns
returns c = (refl, refused, refl)
