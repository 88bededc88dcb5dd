-- Each part is less deep than the whole.
use Rattle.std.specs.Prelude.{◌+◌, ◌≤◌, max, List, [], ◌∷◌, drop}
use Rattle.std.proofs.Common.{arith, length-drop}
use denote.Param.Weighed.{most}
use Rattle.campl_value.specs.declared.value.Node.{Node}
use Rattle.campl_value.specs.declared.value.Node.TheVariants as N
use Rattle.campl_value.specs.declared.value.Value.TheDeep.{deep-Node}
use Rattle.campl_value.specs.Tree.{Tree, depth_of, deepest_of, trees_of}
use Rattle.campl_value.specs.Depth.{depth_of_letters}
use Rattle.campl_value.specs.View.{tree_of, HasLetter}

most_le : (parts : List Tree) → most (λ t. depth_of t + 1) parts ≤ deepest_of (trees_of parts) + 1
most_le [] = omega arith
most_le (t ∷ ts) = omega (arith, most_le ts)

pub depth_falls : (n : Node) → HasLetter n → max (deep-Node n) 0 ≤ depth_of (tree_of n)
depth_falls (N.Int n) h = omega arith
depth_falls (N.Char n) h = omega arith
depth_falls (N.Truth n) h = omega arith
depth_falls (N.Nil) h = omega arith
depth_falls (N.Cell parts) h = omega arith
depth_falls (N.Text from text) h =
    let cs = text.value.characters.items in
    omega (arith, depth_of_letters (drop from cs) text.value.behind, length-drop from cs, h.0)
depth_falls (N.Pair parts) h = omega arith
depth_falls (N.Built c parts) h = omega (arith, most_le parts.value.items)
