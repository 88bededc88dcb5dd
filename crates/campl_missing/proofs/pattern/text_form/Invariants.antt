use Rattle.std.proofs.Common.{◌≡◌, drop}
use Rattle.campl_types.specs.Forms.{text_form}
use Rattle.campl_missing.specs.View.{view_form}
use Rattle.campl_missing.proofs.pattern.text_form.Given as goal

abbrev pub invariant-loop-i : goal.invariant-loop-i
invariant-loop-i l = view_form l.list ≡ text_form (drop l.i l.text)
