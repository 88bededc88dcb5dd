use Rattle.typed_sources.proofs.FirstOfTexts.{typed}
use Rattle.typed_sources.proofs.laws.law_first_of_texts.Goals as goal

pub returns : goal.returns
returns c = typed
