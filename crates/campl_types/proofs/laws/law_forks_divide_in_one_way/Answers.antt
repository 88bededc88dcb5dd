use Rattle.campl_types.proofs.Forked.{keeps-free}
use Rattle.campl_types.proofs.laws.law_forks_divide_in_one_way.Goals as goal

pub returns : goal.returns
returns c = keeps-free
