use Rattle.typed_sources.proofs.GivesABox.{typed}
use Rattle.typed_sources.proofs.laws.law_gives_a_box.Goals as goal

pub returns : goal.returns
returns c = typed
