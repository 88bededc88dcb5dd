use Rattle.std.proofs.Common.{◌≡◌, drop}
use Rattle.campl_held.specs.Chosen.{view_lines}
use Rattle.campl_rows.specs.Covered.{first_missing}
use Rattle.campl_rows.proofs.hcase.first_missing.Given as goal

abbrev pub invariant-loop-number : goal.invariant-loop-number
invariant-loop-number l = first_missing (drop l.number (view_lines l.lines)) l.names ≡ first_missing (view_lines l.lines) l.names
