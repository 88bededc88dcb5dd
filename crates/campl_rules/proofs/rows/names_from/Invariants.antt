use Rattle.std.proofs.Common.{◌≡◌, ◌≤◌, length, map, drop}
use Rattle.campl_code.specs.Operands.{names_rows}
use Rattle.campl_instructions.specs.View.{node_trees}
use Rattle.campl_rules.proofs.rows.names_from.Given as goal

abbrev pub invariant-loop-at : goal.invariant-loop-at
invariant-loop-at l =
    (l.at ≤ length l.nodes) × (length l.named.items ≡ length l.nodes) × (drop l.at l.named.items ≡ map (names_rows l.bound) (node_trees (drop l.at l.nodes)))

abbrev pub decreases-loop-at : goal.decreases-loop-at
decreases-loop-at l = l.at
