use Rattle.campl_types.proofs.Bare.{deed-bare}
use Rattle.campl_types.proofs.laws.law_the_table_sees_no_places.Goals as goal

pub returns : goal.returns
returns c = deed-bare
