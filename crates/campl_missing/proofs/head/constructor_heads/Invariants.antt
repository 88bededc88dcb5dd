use Rattle.std.proofs.Common.{◌≡◌, map, take}
use Rattle.campl_tree.specs.View.{view_seq, view_data, view_data_constructor}
use Rattle.campl_missing.specs.View.{view_heads}
use Rattle.campl_missing.specs.Heads.{constructor_heads}
use Rattle.campl_missing.proofs.head.constructor_heads.Given as goal

abbrev pub invariant-loop-k : goal.invariant-loop-k
invariant-loop-k l = view_heads l.heads ≡ constructor_heads (view_data l.d) (map view_seq l.arguments) (map view_data_constructor (take l.k-index l.d.constructors))
