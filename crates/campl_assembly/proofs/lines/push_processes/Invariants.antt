use Rattle.std.proofs.Common.{◌≡◌, ◌++◌, drop, map}
use Rattle.std.specs.Prelude.{flat_map}
use Rattle.campl_code.specs.Listing.{process_lines}
use Rattle.campl_instructions.specs.View.{view_block}
use Rattle.campl_assembly.proofs.lines.push_processes.Given as goal

abbrev pub invariant-loop-block : goal.invariant-loop-block
invariant-loop-block l = l.page ++ flat_map process_lines (map view_block (drop l.block-index l.processes)) ≡ l.initial.page ++ flat_map process_lines (map view_block l.processes)
