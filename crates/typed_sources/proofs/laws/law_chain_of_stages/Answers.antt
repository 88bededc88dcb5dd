use Rattle.typed_sources.proofs.ChainOfStages.{typed}
use Rattle.typed_sources.proofs.laws.law_chain_of_stages.Goals as goal

pub returns : goal.returns
returns c = typed
