use Rattle.std.proofs.Common.{◌≡◌, length}
use Rattle.campl_code.specs.Decisions.{chosen}
use Rattle.campl_instructions.specs.View.{root}
use Rattle.campl_instructions.proofs.decision.Decision.find.Given as goal

-- the tree of what is left finds what the whole one does
abbrev pub invariant-nodes : goal.invariant-nodes
invariant-nodes l = chosen (root l.rest) l.values ≡ chosen (root l.self.nodes) l.values

abbrev pub decreases-nodes : goal.decreases-nodes
decreases-nodes l = length l.rest
