use Rattle.campl_seqcheck.proofs.AgreesRows.{a-row-matches}
use Rattle.campl_seqcheck.proofs.laws.law_values_match_a_row.Goals as goal

pub returns : goal.returns
returns c = a-row-matches
