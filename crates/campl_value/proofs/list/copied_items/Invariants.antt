use Rattle.std.proofs.Common.{◌≡◌, ◌++◌, option_map}
use Rattle.campl_value.specs.Tree.{depth_of}
use Rattle.campl_value.specs.List.{items_of}
use Rattle.campl_value.proofs.list.copied_items.Given as goal

abbrev pub invariant-loop-items : goal.invariant-loop-items
invariant-loop-items l = option_map (λ more. l.items.items ++ more) (items_of l.rest) ≡ items_of l.list

abbrev pub decreases-loop-items : goal.decreases-loop-items
decreases-loop-items l = depth_of l.rest
