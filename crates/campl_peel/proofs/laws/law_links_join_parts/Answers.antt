use Rattle.campl_peel.proofs.Steps.{links-join-parts}
use Rattle.campl_peel.proofs.laws.law_links_join_parts.Goals as goal

pub returns : goal.returns
returns c = links-join-parts
