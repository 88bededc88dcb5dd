use Rattle.std.proofs.Common.{◌≡◌, nat_lt, drop}
use Rattle.campl_code.specs.Operands.{every}
use Rattle.campl_rules.proofs.ways.are_below.Given as goal

abbrev pub invariant-loop-to : goal.invariant-loop-to
invariant-loop-to l =
    every (λ to. nat_lt to l.len) (drop l.to-index l.places) ≡ every (λ to. nat_lt to l.len) l.places
