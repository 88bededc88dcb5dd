use Rattle.typed_sources.proofs.NeverReturns.{typed}
use Rattle.typed_sources.proofs.laws.law_never_returns.Goals as goal

pub returns : goal.returns
returns c = typed
