use Rattle.std.proofs.Common.{◌≡◌, ◌≤◌, vec_len}
use Rattle.campl_value.specs.declared.value.TheConstants.{MAX_DEPTH}
use Rattle.campl_value.specs.Tree.{depth_of}
use Rattle.campl_value.specs.List.{in_front}
use Rattle.campl_value.proofs.list.put_in_front.Given as goal

abbrev pub invariant-loop-item : goal.invariant-loop-item
invariant-loop-item l = (in_front l.items.items l.list ≡ in_front l.initial.items.items l.right) × (depth_of l.list ≤ MAX_DEPTH)

abbrev pub decreases-loop-item : goal.decreases-loop-item
decreases-loop-item l = vec_len l.items
