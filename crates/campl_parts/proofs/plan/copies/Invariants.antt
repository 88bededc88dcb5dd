use Rattle.std.proofs.Common.{◌≡◌, take, reverse}
use Rattle.campl_parts.proofs.plan.copies.Given as goal

abbrev pub invariant-loop-value : goal.invariant-loop-value
invariant-loop-value l = reverse l.operands ≡ take l.value-index l.values
