use Rattle.std.proofs.Common.{◌≡◌, map, drop}
use Rattle.campl_code.specs.Rules as rule
use Rattle.campl_instructions.specs.View.{view_instr}
use Rattle.campl_rules.specs.Judged.{code_of, block_of}
use Rattle.campl_rules.proofs.rules.first_bad.Given as goal

abbrev pub invariant-loop-at : goal.invariant-loop-at
invariant-loop-at l =
    rule.first_bad (code_of l.judged) l.judged.in_process (block_of l.judged) l.heights l.at (map view_instr (drop l.at l.judged.block.now)) ≡ rule.first_bad (code_of l.judged) l.judged.in_process (block_of l.judged) l.heights 0 (block_of l.judged)
