use Rattle.std.proofs.Common.{◌≡◌, map, drop}
use Rattle.campl_instructions.specs.View.{view_instr}
use Rattle.campl_program.specs.Onward.{all_onward}
use Rattle.campl_program.proofs.forward.is_onward.Given as goal

abbrev pub invariant-loop-at : goal.invariant-loop-at
invariant-loop-at l = all_onward l.at (map view_instr (drop l.at l.code)) ≡ all_onward 0 (map view_instr l.code)
