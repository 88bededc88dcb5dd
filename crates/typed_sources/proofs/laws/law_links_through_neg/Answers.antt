use Rattle.typed_sources.proofs.LinksThroughNeg.{typed}
use Rattle.typed_sources.proofs.laws.law_links_through_neg.Goals as goal

pub returns : goal.returns
returns c = typed
