use Rattle.campl_migrate_laws.proofs.Again.{stays_as_it_is}
use Rattle.campl_migrate_laws.proofs.laws.law_stays_as_it_is.Goals as goal

pub returns : goal.returns
returns c script result utf8 h = stays_as_it_is script result utf8 h
