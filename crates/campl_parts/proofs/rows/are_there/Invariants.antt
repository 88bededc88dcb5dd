use Rattle.std.proofs.Common.{◌≡◌, drop}
use Rattle.campl_parts.specs.Wanted.{all_there}
use Rattle.campl_parts.proofs.rows.are_there.Given as goal

abbrev pub invariant-loop-spot : goal.invariant-loop-spot
invariant-loop-spot l = all_there l.values (drop l.spot-index l.spots) ≡ all_there l.values l.spots
