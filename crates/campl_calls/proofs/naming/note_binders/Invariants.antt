use Rattle.std.proofs.Common.{◌≡◌, drop}
use Rattle.campl_linear.specs.Processes.{variables_bound}
use Rattle.campl_calls.specs.Headings.{noted}
use Rattle.campl_calls.proofs.naming.note_binders.Given as goal

abbrev pub invariant-loop-i : goal.invariant-loop-i
invariant-loop-i l = noted l.names (variables_bound (drop l.i l.binders)) ≡ noted l.initial.names (variables_bound l.binders)
