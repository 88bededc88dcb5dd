use Rattle.std.proofs.Common.{refl}
use Rattle.typed_sources.specs.NamesAVariableTwice.{names_a_variable_twice}
use Rattle.typed_sources.proofs.Faulted.{ill-typed}
use Rattle.typed_sources.proofs.refusals.law_names_a_variable_twice_is_refused.Goals as goal

pub returns : goal.returns
returns c = ill-typed names_a_variable_twice _ refl refl
