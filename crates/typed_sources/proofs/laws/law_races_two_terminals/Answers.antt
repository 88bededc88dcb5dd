use Rattle.typed_sources.proofs.RacesTwoTerminals.{typed}
use Rattle.typed_sources.proofs.laws.law_races_two_terminals.Goals as goal

pub returns : goal.returns
returns c = typed
