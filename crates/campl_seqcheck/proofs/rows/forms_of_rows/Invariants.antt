use Rattle.std.proofs.Common.{◌≡◌, map, take}
use Rattle.campl_types.specs.Forms.{part_forms, list_of}
use Rattle.campl_missing.specs.View.{view_rows}
use Rattle.campl_seqcheck.proofs.rows.forms_of_rows.Given as goal

abbrev pub invariant-loop-row : goal.invariant-loop-row
invariant-loop-row g l = view_rows l.forms ≡ map (λ r. list_of (part_forms (g.R.Row.patterns r))) (take l.row-index l.rows)
