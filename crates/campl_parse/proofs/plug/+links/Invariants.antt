use Rattle.std.proofs.Common.{◌-◌}
use Rattle.campl_parse.proofs.plug.+links.Given as goal

abbrev pub decreases-links : goal.decreases-links
decreases-links l = 201 - l.depth
