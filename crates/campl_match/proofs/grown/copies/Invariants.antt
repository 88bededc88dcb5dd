use Rattle.std.proofs.Common.{◌≡◌, take}
use Rattle.campl_match.proofs.grown.copies.Given as goal

abbrev pub invariant-loop-spot : goal.invariant-loop-spot
invariant-loop-spot l = l.copies ≡ take l.spot-index l.spots
