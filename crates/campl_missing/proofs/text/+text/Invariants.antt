use Rattle.std.proofs.Common.{◌≡◌, ◌++◌, drop}
use Rattle.campl_types.specs.Forms.{forms_of}
use Rattle.campl_missing.specs.Texts.{more_texts, forms_text}
use Rattle.campl_missing.specs.View.{view_forms}
use Rattle.campl_missing.proofs.text.+text.Given as goal

abbrev pub invariant-push_forms-loop-i : goal.invariant-push_forms-loop-i
invariant-push_forms-loop-i l = l.text.items ++ more_texts (forms_of (view_forms (drop l.i l.forms))) ≡ l.fn.text.items ++ forms_text (view_forms l.forms)
