use Rattle.typed_sources.proofs.LeavesAPartApart.{typed}
use Rattle.typed_sources.proofs.laws.law_leaves_a_part_apart.Goals as goal

pub returns : goal.returns
returns c = typed
