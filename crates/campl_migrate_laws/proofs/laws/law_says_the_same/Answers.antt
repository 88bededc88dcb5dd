use Rattle.campl_migrate_laws.proofs.Again.{says_the_same}
use Rattle.campl_migrate_laws.proofs.laws.law_says_the_same.Goals as goal

pub returns : goal.returns
returns c names script result utf8 h = says_the_same names script result utf8 h
