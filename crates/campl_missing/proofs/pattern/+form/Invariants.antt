use Rattle.std.proofs.Common.{◌≡◌, map, take, drop}
use Rattle.campl_tree.specs.View.{view_pattern, patterns}
use Rattle.campl_types.specs.Forms.{form_of, element_forms}
use Rattle.campl_missing.specs.View.{view_form, view_forms}
use Rattle.campl_missing.proofs.pattern.+form.Given as goal

abbrev pub invariant-part_forms-loop-p : goal.invariant-part_forms-loop-p
invariant-part_forms-loop-p l = view_forms l.parts ≡ map form_of (map view_pattern (take l.p-index l.ps))

abbrev pub invariant-element_forms-loop-i : goal.invariant-element_forms-loop-i
invariant-element_forms-loop-i l = view_form l.list ≡ element_forms (patterns (map view_pattern (drop l.i l.ps)))
