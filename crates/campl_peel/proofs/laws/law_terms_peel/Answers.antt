use Rattle.campl_peel.proofs.Terms.{term-peels}
use Rattle.campl_peel.proofs.laws.law_terms_peel.Goals as goal

pub returns : goal.returns
returns c = term-peels
