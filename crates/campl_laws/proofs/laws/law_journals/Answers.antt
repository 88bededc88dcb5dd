use Rattle.campl_laws.proofs.Journaled.{journal-run}
use Rattle.campl_laws.proofs.laws.law_journals.Goals as goal

pub returns : goal.returns
returns k = journal-run
