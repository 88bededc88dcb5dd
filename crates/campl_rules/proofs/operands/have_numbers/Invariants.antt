use Rattle.std.proofs.Common.{◌≡◌, ◌+◌, nat_le, drop}
use Rattle.campl_code.specs.Operands.{every, most_numbers}
use Rattle.campl_rules.proofs.operands.have_numbers.Given as goal

abbrev pub invariant-loop-n : goal.invariant-loop-n
invariant-loop-n l =
    every (λ n. nat_le (l.v + n) most_numbers) (drop l.n-index l.bound) ≡ every (λ n. nat_le (l.v + n) most_numbers) l.bound
