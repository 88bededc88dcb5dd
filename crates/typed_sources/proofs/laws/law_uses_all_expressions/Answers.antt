use Rattle.typed_sources.proofs.UsesAllExpressions.{typed}
use Rattle.typed_sources.proofs.laws.law_uses_all_expressions.Goals as goal

pub returns : goal.returns
returns c = typed
