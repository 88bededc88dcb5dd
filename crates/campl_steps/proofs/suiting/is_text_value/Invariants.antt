use Rattle.std.proofs.Common.{◌≡◌, is_some}
use Rattle.campl_value.specs.Text.{chars_of}
use Rattle.campl_value.specs.Tree.{depth_of}
use Rattle.campl_steps.proofs.suiting.is_text_value.Given as goal

abbrev pub invariant-loop-behind : goal.invariant-loop-behind
invariant-loop-behind l = is_some (chars_of l.rest) ≡ is_some (chars_of l.fn.value)

abbrev pub decreases-loop-behind : goal.decreases-loop-behind
decreases-loop-behind l = depth_of l.rest
