use Rattle.std.proofs.Common.{refl}
use Rattle.typed_sources.specs.CallsWithoutAnArgument.{calls_without_an_argument}
use Rattle.typed_sources.proofs.Faulted.{ill-typed}
use Rattle.typed_sources.proofs.refusals.law_calls_without_an_argument_is_refused.Goals as goal

pub returns : goal.returns
returns c = ill-typed calls_without_an_argument _ refl refl
