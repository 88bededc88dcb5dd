use Rattle.std.proofs.Common.{◌≡◌, ◌++◌, drop, map}
use Rattle.std.specs.Prelude.{codes, flat_map}
use Rattle.campl_assembly.specs.Operands.{operand_text}
use Rattle.campl_assembly.proofs.operands.push_words.Given as goal

abbrev pub invariant-loop-operand : goal.invariant-loop-operand
invariant-loop-operand l =
    l.page ++ flat_map (λ x. codes " " ++ x) (map operand_text (drop l.operand-index l.operands)) ≡ l.initial.page ++ flat_map (λ x. codes " " ++ x) (map operand_text l.operands)
