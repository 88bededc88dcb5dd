use Rattle.std.proofs.Common.{refl}
use Rattle.typed_sources.proofs.LeavesAChannel.{refused}
use Rattle.typed_sources.proofs.refusals.law_leaves_a_channel_is_refused.Goals as goal

pub returns : goal.returns
returns c = (refl, refused, refl)
