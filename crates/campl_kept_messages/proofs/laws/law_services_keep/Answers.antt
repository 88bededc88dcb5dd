use Rattle.campl_kept_messages.proofs.Kept.{services-kept}
use Rattle.campl_kept_messages.proofs.laws.law_services_keep.Goals as goal

pub returns : goal.returns
returns c = services-kept
