use Rattle.std.proofs.Common.{refl}
use Rattle.typed_sources.specs.HasAPatternTooMany.{has_a_pattern_too_many}
use Rattle.typed_sources.proofs.Faulted.{ill-typed}
use Rattle.typed_sources.proofs.refusals.law_has_a_pattern_too_many_is_refused.Goals as goal

pub returns : goal.returns
returns c = ill-typed has_a_pattern_too_many _ refl refl
