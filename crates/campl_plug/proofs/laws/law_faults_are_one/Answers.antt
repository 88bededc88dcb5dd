use Rattle.campl_plug.proofs.OneFault.{one-fault}
use Rattle.campl_plug.proofs.laws.law_faults_are_one.Goals as goal

pub returns : goal.returns
returns c = one-fault
