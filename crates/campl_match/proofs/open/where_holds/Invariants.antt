use Rattle.std.proofs.Common.{◌≡◌, ◌++◌, drop}
use Rattle.campl_code.specs.Compiled.{where_holds}
use Rattle.campl_match.specs.View.{view_asked, view_rows}
use Rattle.campl_match.proofs.open.where_holds.Given as goal

abbrev pub invariant-loop-row : goal.invariant-loop-row
invariant-loop-row l = view_rows l.held.items ++ where_holds (view_asked l.asked) (view_rows (drop l.row-index l.rows)) ≡ where_holds (view_asked l.asked) (view_rows l.rows)
