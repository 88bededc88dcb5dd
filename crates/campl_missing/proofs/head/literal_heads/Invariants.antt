use Rattle.std.proofs.Common.{◌≡◌, ◌++◌, drop}
use Rattle.campl_types.specs.Missing.{column, literals}
use Rattle.campl_missing.specs.View.{view_rows, view_heads}
use Rattle.campl_missing.proofs.head.literal_heads.Given as goal

abbrev pub invariant-loop-row : goal.invariant-loop-row
invariant-loop-row l = view_heads l.heads ++ literals (column (view_rows (drop l.row-index l.rows))) ≡ literals (column (view_rows l.rows))
