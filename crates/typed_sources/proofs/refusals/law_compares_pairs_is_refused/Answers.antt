use Rattle.std.proofs.Common.{refl}
use Rattle.typed_sources.specs.ComparesPairs.{compares_pairs}
use Rattle.typed_sources.proofs.Faulted.{ill-typed}
use Rattle.typed_sources.proofs.refusals.law_compares_pairs_is_refused.Goals as goal

pub returns : goal.returns
returns c = ill-typed compares_pairs _ refl refl
