use Rattle.std.proofs.Common.{◌≡◌, drop}
use Rattle.campl_code.specs.Operands.{every, is_number}
use Rattle.campl_rules.proofs.operands.are_numbers.Given as goal

abbrev pub invariant-loop-n : goal.invariant-loop-n
invariant-loop-n l =
    every is_number (drop l.n-index l.numbers) ≡ every is_number l.numbers
