use Rattle.campl_evaluation.proofs.Sources.{source-is-sound}
use Rattle.campl_laws.proofs.laws.law_soundness.Goals as goal

pub returns : goal.returns
returns k source accepted = source-is-sound source accepted.typed
