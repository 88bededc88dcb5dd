use Rattle.typed_sources.proofs.PrintsHello.{typed}
use Rattle.typed_sources.proofs.laws.law_prints_hello.Goals as goal

pub returns : goal.returns
returns c = typed
