use Rattle.std.proofs.Common.{◌≡◌, ◌++◌, drop, map}
use Rattle.campl_code.specs.Listing.{decision_lines}
use Rattle.campl_instructions.specs.View.{view_decision}
use Rattle.campl_assembly.proofs.lines.push_decisions.Given as goal

abbrev pub invariant-loop-number : goal.invariant-loop-number
invariant-loop-number l = l.page ++ decision_lines l.number (map view_decision (drop l.number l.decisions)) ≡ l.initial.page ++ decision_lines 0 (map view_decision l.decisions)
