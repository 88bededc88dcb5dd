use Rattle.std.proofs.Common.{length}
use Rattle.campl_parse_terms.proofs.cursor.Cursor.+at_any.Given as goal

abbrev pub decreases-at_any : goal.decreases-at_any
decreases-at_any l = length l.kinds.now
