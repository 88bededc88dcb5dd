use Rattle.std.proofs.Common.{◌≡◌, take}
use Rattle.campl_missing.proofs.form.Form.+copy.Given as goal

abbrev pub invariant-copy_all-loop-p : goal.invariant-copy_all-loop-p
invariant-copy_all-loop-p l = l.copies ≡ take l.p-index l.forms
