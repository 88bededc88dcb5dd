use Rattle.campl_peel.proofs.LeftTree.{left-is-tree}
use Rattle.campl_peel.proofs.laws.law_left_parts_are_a_tree.Goals as goal

pub returns : goal.returns
returns c = λ w vs held links parts. left-is-tree w vs parts held links
