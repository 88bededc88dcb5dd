use Rattle.std.proofs.Common.{◌≡◌, ◌≤◌, drop, max}
use Rattle.campl_value.specs.declared.value.TheConstants.{MAX_DEPTH}
use Rattle.campl_value.specs.Tree.{deepest_of, trees_of}
use Rattle.campl_value.proofs.value.deepest.Given as goal

abbrev pub invariant-loop-part : goal.invariant-loop-part
invariant-loop-part l = (max l.below (deepest_of (trees_of (drop l.part-index l.parts))) ≡ deepest_of (trees_of l.parts)) × (l.below ≤ MAX_DEPTH)
