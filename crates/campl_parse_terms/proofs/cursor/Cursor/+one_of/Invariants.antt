use Rattle.std.proofs.Common.{length}
use Rattle.campl_parse_terms.proofs.cursor.Cursor.+one_of.Given as goal

abbrev pub decreases-one_of : goal.decreases-one_of
decreases-one_of g l = length l.others.now
