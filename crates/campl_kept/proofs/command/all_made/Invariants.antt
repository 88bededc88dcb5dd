use Rattle.std.proofs.Common.{◌≡◌, [], drop, map}
use Rattle.campl_instructions.specs.View.{view_instr}
use Rattle.campl_kept.specs.Straight.{all_made}
use Rattle.campl_kept.proofs.command.all_made.Given as goal

abbrev pub invariant-loop-instr : goal.invariant-loop-instr
invariant-loop-instr l = all_made l.variables l.operands (map view_instr (drop l.instr-index l.code)) ≡ all_made l.variables [] (map view_instr l.code)
