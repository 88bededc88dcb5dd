-- Steps that bear nothing and use different ends are independent.
use Rattle.campl_machine.proofs.Beside.{independent}
use Rattle.campl_machine.proofs.diamond.law_independent.Goals as goal

pub returns : goal.returns
returns g c = independent
