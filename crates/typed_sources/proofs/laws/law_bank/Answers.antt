use Rattle.typed_sources.proofs.Bank.{typed}
use Rattle.typed_sources.proofs.laws.law_bank.Goals as goal

pub returns : goal.returns
returns c = typed
