use Rattle.std.proofs.Common.{◌≡◌, map, drop}
use Rattle.campl_instructions.specs.View.{view_block}
use Rattle.campl_program.specs.Onward.{blocks_onward}
use Rattle.campl_program.proofs.forward.are_onward.Given as goal

abbrev pub invariant-loop-block : goal.invariant-loop-block
invariant-loop-block l = blocks_onward (map view_block (drop l.block-index l.blocks)) ≡ blocks_onward (map view_block l.blocks)
