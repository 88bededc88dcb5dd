use Rattle.std.proofs.Common.{◌≡◌, ℕ, suc, ◌+◌, ◌<◌, List, length, get_or, drop, max, ap, sym, arith, add-one, drop-cons}
use Rattle.campl_value.specs.Tree.{Tree, depth_of, trees_of, deepest_of}
use Rattle.campl_value.proofs.value.deepest.Goals as goal

one_more : (xs : List Tree) (i : ℕ) (v : Tree) → i < length xs → v ≡ get_or xs i v → deepest_of (trees_of (drop i xs)) ≡ max (depth_of v) (deepest_of (trees_of (drop (i + 1) xs)))
one_more xs i v h e =
    rw (add-one, drop-cons xs i v) (ap (λ (t : Tree). max (depth_of t) (deepest_of (trees_of (drop (suc i) xs)))) (sym e))

pub loop-part-preserved : goal.loop-part-preserved
loop-part-preserved c = let e = one_more c.args.parts.now c.loop-part.part-index c.part-item.result c.loop-part-test.true c.part-item.is in (omega (arith, e), omega arith)
