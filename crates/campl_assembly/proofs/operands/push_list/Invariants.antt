use Rattle.std.proofs.Common.{◌≡◌, ◌++◌, drop}
use Rattle.std.specs.Prelude.{codes, flat_map}
use Rattle.std.specs.Fmt.{decimal}
use Rattle.campl_assembly.proofs.operands.push_list.Given as goal

abbrev pub invariant-loop-n : goal.invariant-loop-n
invariant-loop-n l = l.page ++ flat_map (λ n. codes "," ++ decimal n) (drop l.n-index l.more) ≡ l.initial.page ++ flat_map (λ n. codes "," ++ decimal n) l.more
