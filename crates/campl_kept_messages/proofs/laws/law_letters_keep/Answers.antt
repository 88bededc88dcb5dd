use Rattle.campl_kept_messages.proofs.Kept.{letters-kept}
use Rattle.campl_kept_messages.proofs.laws.law_letters_keep.Goals as goal

pub returns : goal.returns
returns c = letters-kept
