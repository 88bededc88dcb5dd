use Rattle.typed_sources.proofs.FillsAText.{typed}
use Rattle.typed_sources.proofs.laws.law_fills_a_text.Goals as goal

pub returns : goal.returns
returns c = typed
