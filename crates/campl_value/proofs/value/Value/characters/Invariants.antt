use Rattle.std.proofs.Common.{◌≡◌, ◌++◌, option_map}
use Rattle.campl_value.specs.Tree.{depth_of}
use Rattle.campl_value.specs.Text.{chars_of}
use Rattle.campl_value.proofs.value.Value.characters.Given as goal

abbrev pub invariant-loop-read : goal.invariant-loop-read
invariant-loop-read l = option_map (λ more. l.read.items ++ more) (chars_of l.rest) ≡ chars_of l.self

abbrev pub decreases-loop-read : goal.decreases-loop-read
decreases-loop-read l = depth_of l.rest
