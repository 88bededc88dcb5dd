use Rattle.std.proofs.Common.{◌≡◌, ◌≤◌, ◌-◌, length}
use Rattle.campl_types.specs.Forms.{anythings}
use Rattle.campl_missing.specs.View.{view_forms}
use Rattle.campl_missing.proofs.form.anythings.Given as goal

abbrev pub invariant-loop-forms : goal.invariant-loop-forms
invariant-loop-forms l = (view_forms l.forms ≡ anythings (length l.forms)) × (length l.forms ≤ l.count)

abbrev pub decreases-loop-forms : goal.decreases-loop-forms
decreases-loop-forms l = l.count - length l.forms
