use Rattle.typed_sources.proofs.FirstOfNone.{typed}
use Rattle.typed_sources.proofs.laws.law_first_of_none.Goals as goal

pub returns : goal.returns
returns c = typed
