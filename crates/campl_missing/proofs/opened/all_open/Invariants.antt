use Rattle.std.proofs.Common.{◌≡◌, drop}
use Rattle.campl_types.specs.Missing.{all_open, column}
use Rattle.campl_missing.specs.View.{view_rows}
use Rattle.campl_missing.proofs.opened.all_open.Given as goal

abbrev pub invariant-loop-row : goal.invariant-loop-row
invariant-loop-row l = all_open (column (view_rows (drop l.row-index l.rows))) ≡ all_open (column (view_rows l.rows))
