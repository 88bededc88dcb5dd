use Rattle.std.proofs.Common.{refl}
use Rattle.typed_sources.proofs.HaltsAClosedChannel.{refused}
use Rattle.typed_sources.proofs.refusals.law_halts_a_closed_channel_is_refused.Goals as goal

pub returns : goal.returns
returns c = (refl, refused, refl)
