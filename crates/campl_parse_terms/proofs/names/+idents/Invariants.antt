use Rattle.std.proofs.Common.{◌-◌}
use Rattle.campl_parse_terms.proofs.names.+idents.Given as goal

abbrev pub decreases-idents : goal.decreases-idents
decreases-idents l = 201 - l.depth
