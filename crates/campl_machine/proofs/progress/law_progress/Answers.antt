-- The walk from node to node ends.
use Rattle.campl_machine.proofs.Descent.{some-stops}
use Rattle.campl_machine.proofs.progress.law_progress.Goals as goal

pub returns : goal.returns
returns g c = some-stops
