use Rattle.campl_linear.proofs.Processed.{sources-agree}
use Rattle.campl_linear.proofs.laws.law_sources_are_typed.Goals as goal

pub returns : goal.returns
returns c = sources-agree
