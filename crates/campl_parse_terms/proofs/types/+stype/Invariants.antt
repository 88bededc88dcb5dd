use Rattle.std.proofs.Common.{◌+◌, ◌-◌, ◌*◌}
use Rattle.campl_parse_terms.proofs.types.+stype.Given as goal

abbrev pub decreases-stypes : goal.decreases-stypes
decreases-stypes l = (201 - l.depth) * 4 + 3

abbrev pub decreases-stype : goal.decreases-stype
decreases-stype l = (201 - l.depth) * 4 + 2

abbrev pub decreases-list_type : goal.decreases-list_type
decreases-list_type l = (201 - l.depth) * 4

abbrev pub decreases-named_or_grouped : goal.decreases-named_or_grouped
decreases-named_or_grouped l = (201 - l.depth) * 4 + 1

abbrev pub decreases-grouped_type : goal.decreases-grouped_type
decreases-grouped_type l = (201 - l.depth) * 4

abbrev pub decreases-type_arguments : goal.decreases-type_arguments
decreases-type_arguments l = (201 - l.depth) * 4
