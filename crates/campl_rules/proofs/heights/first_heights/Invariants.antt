use Rattle.std.proofs.Common.{◌≡◌, true, Some, map, drop}
use Rattle.campl_code.specs.Heights.{all_children}
use Rattle.campl_instructions.specs.View.{view_instr}
use Rattle.campl_rules.specs.Found.{set_all}
use Rattle.campl_rules.proofs.heights.first_heights.Given as goal

abbrev pub invariant-loop-x : goal.invariant-loop-x
invariant-loop-x l =
    set_all (all_children (map view_instr (drop l.x-index l.block))) (Some (0, true)) l.heights.items ≡ set_all (all_children (map view_instr l.block)) (Some (0, true)) l.initial.heights.items
