use Rattle.campl_kept_identities.proofs.Identities.{link-kept}
use Rattle.campl_kept_identities.proofs.laws.law_link_kept.Goals as goal

pub returns : goal.returns
returns c = link-kept
