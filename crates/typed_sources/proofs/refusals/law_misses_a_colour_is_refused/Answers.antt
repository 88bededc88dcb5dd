use Rattle.std.proofs.Common.{refl}
use Rattle.typed_sources.specs.MissesAColour.{misses_a_colour}
use Rattle.typed_sources.proofs.Faulted.{ill-typed}
use Rattle.typed_sources.proofs.refusals.law_misses_a_colour_is_refused.Goals as goal

pub returns : goal.returns
returns c = ill-typed misses_a_colour _ refl refl
