use Rattle.typed_sources.proofs.FirstRowWins.{typed}
use Rattle.typed_sources.proofs.laws.law_first_row_wins.Goals as goal

pub returns : goal.returns
returns c = typed
