use Rattle.typed_sources.proofs.SharesTwoChannels.{typed}
use Rattle.typed_sources.proofs.laws.law_shares_two_channels.Goals as goal

pub returns : goal.returns
returns c = typed
