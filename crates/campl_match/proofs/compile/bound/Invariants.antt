use Rattle.std.proofs.Common.{◌≡◌, length, map, take}
use Rattle.campl_match.specs.View.{view_flat}
use Rattle.campl_match.proofs.compile.bound.Given as goal

abbrev pub invariant-loop-row : goal.invariant-loop-row
invariant-loop-row l = l.bound ≡ map (λ r. length r.spots) (map view_flat (take l.row-index l.rows))
