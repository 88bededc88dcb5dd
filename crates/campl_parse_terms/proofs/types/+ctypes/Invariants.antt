use Rattle.std.proofs.Common.{◌-◌}
use Rattle.campl_parse_terms.proofs.types.+ctypes.Given as goal

abbrev pub decreases-ctypes : goal.decreases-ctypes
decreases-ctypes l = 201 - l.depth
