use Rattle.campl_types.proofs.Forked.{forks-by-names}
use Rattle.campl_types.proofs.laws.law_forks_divide_by_names.Goals as goal

pub returns : goal.returns
returns c = forks-by-names
