use Rattle.std.proofs.Common.{◌≡◌}
use Rattle.campl_value.specs.Tree.{depth_of}
use Rattle.campl_value.specs.Compare.{texts_compared}
use Rattle.campl_value.proofs.compare.compare_texts.Given as goal

abbrev pub invariant-loop-a : goal.invariant-loop-a
invariant-loop-a l = texts_compared l.left l.right ≡ texts_compared l.fn.left l.fn.right

abbrev pub decreases-loop-a : goal.decreases-loop-a
decreases-loop-a l = depth_of l.left
