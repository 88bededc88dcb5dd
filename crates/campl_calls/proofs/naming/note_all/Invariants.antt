use Rattle.std.proofs.Common.{◌≡◌, drop}
use Rattle.campl_calls.specs.Headings.{noted}
use Rattle.campl_calls.proofs.naming.note_all.Given as goal

abbrev pub invariant-loop-i : goal.invariant-loop-i
invariant-loop-i l = noted l.names (drop l.i l.idents) ≡ noted l.initial.names l.idents
