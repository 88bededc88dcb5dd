-- How deep values are.
use Rattle.std.specs.Prelude.{◌≡◌, ℕ, ◌+◌, ◌≤◌, List, [], ◌∷◌, length}
use Rattle.std.proofs.Common.{arith}
use Rattle.campl_value.specs.Tree.{Tree, Int, Char, Truth, Nil, Cell, Pair, Built, depth_of}
use Rattle.campl_value.specs.List.{letters}

pub depth_pos : (t : Tree) → 1 ≤ depth_of t
depth_pos (Int n) = omega arith
depth_pos (Char c) = omega arith
depth_pos (Truth b) = omega arith
depth_pos Nil = omega arith
depth_pos (Cell head tail) = omega arith
depth_pos (Pair a b) = omega arith
depth_pos (Built c parts) = omega arith

-- characters in front make a value deeper by one each
pub depth_of_letters : (cs : List ℕ) (behind : Tree) → depth_of (letters cs behind) ≡ length cs + depth_of behind
depth_of_letters [] behind = omega arith
depth_of_letters (c ∷ cs) behind = omega (arith, depth_of_letters cs behind, depth_pos behind)
