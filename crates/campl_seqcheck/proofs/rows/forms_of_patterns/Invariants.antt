use Rattle.std.proofs.Common.{◌≡◌, map, take}
use Rattle.campl_tree.specs.View.{view_pattern}
use Rattle.campl_types.specs.Forms.{form_of}
use Rattle.campl_missing.specs.View.{view_forms}
use Rattle.campl_seqcheck.proofs.rows.forms_of_patterns.Given as goal

abbrev pub invariant-loop-p : goal.invariant-loop-p
invariant-loop-p l = view_forms l.forms ≡ map form_of (map view_pattern (take l.p-index l.ps))
