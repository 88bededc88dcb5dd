use Rattle.std.proofs.Common.{◌≡◌, ◌++◌, map, drop}
use Rattle.campl_code.specs.Frames.{frame_size}
use Rattle.campl_instructions.specs.View.{view_block, view_code}
use Rattle.campl_program.specs.Onward.{sizes_of}
use Rattle.campl_program.proofs.sizes.frame_sizes.Given as goal

abbrev pub invariant-loop-block : goal.invariant-loop-block
invariant-loop-block l = l.sizes ++ map (frame_size (view_code l.code).decisions) (map view_block (drop l.block-index l.blocks)) ≡ sizes_of (view_code l.code) (map view_block l.blocks)
