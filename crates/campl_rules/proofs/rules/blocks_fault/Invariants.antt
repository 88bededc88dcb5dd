use Rattle.std.proofs.Common.{◌≡◌, map, drop}
use Rattle.campl_instructions.specs.View.{view_block, view_code}
use Rattle.campl_rules.specs.Faults.{first_block}
use Rattle.campl_rules.proofs.rules.blocks_fault.Given as goal

abbrev pub invariant-loop-number : goal.invariant-loop-number
invariant-loop-number l =
    first_block (view_code l.code) l.in_process l.number (map view_block (drop l.number l.blocks)) ≡ first_block (view_code l.code) l.in_process 0 (map view_block l.blocks)
