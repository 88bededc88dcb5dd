use Rattle.typed_sources.proofs.HaltsAtOnce.{typed}
use Rattle.typed_sources.proofs.laws.law_halts_at_once.Goals as goal

pub returns : goal.returns
returns c = typed
