use Rattle.typed_sources.proofs.RacesADoor.{typed}
use Rattle.typed_sources.proofs.laws.law_races_a_door.Goals as goal

pub returns : goal.returns
returns c = typed
