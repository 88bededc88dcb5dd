use Rattle.campl_evaluation.proofs.Sources.{source-is-sound}
use Rattle.campl_evaluation.proofs.laws.law_soundness.Goals as goal

pub returns : goal.returns
returns c = source-is-sound
