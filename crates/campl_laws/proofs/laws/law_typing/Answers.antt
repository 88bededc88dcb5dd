use Rattle.campl_laws.proofs.All.{all-kept, met-lawful}
use Rattle.campl_laws.proofs.laws.law_typing.Goals as goal

pub returns-clause-begins : goal.returns-clause-begins
returns-clause-begins k source scripts accepted = (all-kept source).begins scripts accepted

pub returns-clause-kept : goal.returns-clause-kept
returns-clause-kept k source c d who l g = (all-kept source).goes_on c d who l g

pub returns-clause-lawful : goal.returns-clause-lawful
returns-clause-lawful k = met-lawful
