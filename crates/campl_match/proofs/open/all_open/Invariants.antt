use Rattle.std.proofs.Common.{◌≡◌, map, take}
use Rattle.campl_match.specs.View.{view_flat, view_rows}
use Rattle.campl_match.proofs.open.all_open.Given as goal

abbrev pub invariant-loop-row : goal.invariant-loop-row
invariant-loop-row l = view_rows l.all.items ≡ map view_flat (take l.row-index l.rows)
