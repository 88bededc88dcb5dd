use Rattle.std.proofs.Common.{◌≡◌, ◌++◌, drop}
use Rattle.campl_types.specs.Missing.{opened_rows}
use Rattle.campl_missing.specs.View.{view_rows, view_head}
use Rattle.campl_missing.proofs.opened.opened_rows.Given as goal

abbrev pub invariant-loop-row : goal.invariant-loop-row
invariant-loop-row l = view_rows l.kept ++ opened_rows (view_head l.head) (view_rows (drop l.row-index l.rows)) ≡ opened_rows (view_head l.head) (view_rows l.rows)
