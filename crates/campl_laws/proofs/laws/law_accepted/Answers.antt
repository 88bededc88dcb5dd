use Rattle.campl_laws.proofs.Passed.{passed, accepted-passes}
use Rattle.campl_laws.proofs.laws.law_accepted.Goals as goal

pub returns : goal.returns
returns k source = ((λ h. passed source h.0 h.1 h.2), accepted-passes source)
