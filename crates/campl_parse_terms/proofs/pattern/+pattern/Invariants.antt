use Rattle.std.proofs.Common.{◌+◌, ◌-◌, ◌*◌}
use Rattle.campl_parse_terms.proofs.pattern.+pattern.Given as goal

abbrev pub decreases-some_patterns : goal.decreases-some_patterns
decreases-some_patterns l = (201 - l.depth) * 5 + 4

abbrev pub decreases-patterns : goal.decreases-patterns
decreases-patterns l = (201 - l.depth) * 5 + 3

abbrev pub decreases-pattern : goal.decreases-pattern
decreases-pattern l = (201 - l.depth) * 5 + 2

abbrev pub decreases-patom : goal.decreases-patom
decreases-patom l = (201 - l.depth) * 5 + 1

abbrev pub decreases-constructor_pattern : goal.decreases-constructor_pattern
decreases-constructor_pattern l = (201 - l.depth) * 5

abbrev pub decreases-list_pattern : goal.decreases-list_pattern
decreases-list_pattern l = (201 - l.depth) * 5

abbrev pub decreases-grouped_pattern : goal.decreases-grouped_pattern
decreases-grouped_pattern l = (201 - l.depth) * 5
