use Rattle.std.proofs.Common.{◌-◌}
use Rattle.campl_parse_terms.proofs.names.+vars.Given as goal

abbrev pub decreases-vars : goal.decreases-vars
decreases-vars l = 201 - l.depth
