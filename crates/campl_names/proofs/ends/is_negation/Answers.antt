use Rattle.campl_names.proofs.UnlikeChan.{no-negation}
use Rattle.campl_names.proofs.ends.is_negation.Goals as goal

pub returns-in_default : goal.returns-in_default
returns-in_default c = no-negation _ _ c.in_default.not-Neg
