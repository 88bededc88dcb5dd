use Rattle.std.proofs.Common.{◌≡◌, ◌++◌, map, drop}
use Rattle.campl_tree.specs.View.{view_decl}
use Rattle.campl_code.specs.Generated.{function_blocks}
use Rattle.campl_code.specs.Stands.{functions_of}
use Rattle.campl_instructions.specs.View.{view_block}
use Rattle.campl_gen_exprs.proofs.functions.function_blocks.Given as goal

abbrev pub invariant-loop-i : goal.invariant-loop-i
invariant-loop-i l =
    map view_block l.blocks ++ function_blocks (map view_decl l.source) (functions_of (map view_decl (drop l.i l.declarations))) l.decisions
    ≡ function_blocks (map view_decl l.source) (functions_of (map view_decl l.declarations)) 0
