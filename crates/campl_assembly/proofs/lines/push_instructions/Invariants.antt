use Rattle.std.proofs.Common.{◌≡◌, ◌++◌, drop, map}
use Rattle.campl_code.specs.Listing.{instruction_lines}
use Rattle.campl_instructions.specs.View.{view_instr}
use Rattle.campl_assembly.proofs.lines.push_instructions.Given as goal

abbrev pub invariant-loop-at : goal.invariant-loop-at
invariant-loop-at l = l.page ++ instruction_lines l.at (map view_instr (drop l.at l.code)) ≡ l.initial.page ++ instruction_lines 0 (map view_instr l.code)
