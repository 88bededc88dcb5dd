use Rattle.typed_sources.proofs.SendsAhead.{typed}
use Rattle.typed_sources.proofs.laws.law_sends_ahead.Goals as goal

pub returns : goal.returns
returns c = typed
