use Rattle.std.proofs.Common.{refl}
use Rattle.typed_sources.proofs.PlugsOnePart.{refused}
use Rattle.typed_sources.proofs.refusals.law_plugs_one_part_is_refused.Goals as goal

pub returns : goal.returns
returns c = (refl, refused, refl)
