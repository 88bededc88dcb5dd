use Rattle.typed_sources.proofs.EndsTravel.{typed}
use Rattle.typed_sources.proofs.laws.law_ends_travel.Goals as goal

pub returns : goal.returns
returns c = typed
