use Rattle.typed_sources.proofs.ReadsALine.{typed}
use Rattle.typed_sources.proofs.laws.law_reads_a_line.Goals as goal

pub returns : goal.returns
returns c = typed
