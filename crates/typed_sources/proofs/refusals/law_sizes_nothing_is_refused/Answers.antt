use Rattle.std.proofs.Common.{refl}
use Rattle.typed_sources.specs.SizesNothing.{sizes_nothing}
use Rattle.typed_sources.proofs.Faulted.{ill-typed}
use Rattle.typed_sources.proofs.refusals.law_sizes_nothing_is_refused.Goals as goal

pub returns : goal.returns
returns c = ill-typed sizes_nothing _ refl refl
