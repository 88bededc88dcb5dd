use Rattle.std.proofs.Common.{◌+◌, ◌-◌, ◌*◌}
use Rattle.campl_parse_terms.proofs.types.+ctype.Given as goal

abbrev pub decreases-ctype : goal.decreases-ctype
decreases-ctype l = (201 - l.depth) * 3 + 2

abbrev pub decreases-catom : goal.decreases-catom
decreases-catom l = (201 - l.depth) * 3 + 1

abbrev pub decreases-tensor : goal.decreases-tensor
decreases-tensor l = (201 - l.depth) * 3

abbrev pub decreases-par : goal.decreases-par
decreases-par l = (201 - l.depth) * 3

abbrev pub decreases-grouped_ctype : goal.decreases-grouped_ctype
decreases-grouped_ctype l = (201 - l.depth) * 3

abbrev pub decreases-put_type : goal.decreases-put_type
decreases-put_type l = (201 - l.depth) * 3

abbrev pub decreases-get_type : goal.decreases-get_type
decreases-get_type l = (201 - l.depth) * 3

abbrev pub decreases-neg_type : goal.decreases-neg_type
decreases-neg_type l = (201 - l.depth) * 3
