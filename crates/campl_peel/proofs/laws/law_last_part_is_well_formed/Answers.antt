use Rattle.campl_peel.proofs.Steps.{last-part}
use Rattle.campl_peel.proofs.laws.law_last_part_is_well_formed.Goals as goal

pub returns : goal.returns
returns c = last-part
