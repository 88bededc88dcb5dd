use Rattle.std.proofs.Common.{◌≡◌, ◌≤◌, ◌+◌, ◌-◌, ◌*◌, drop, min}
use Rattle.std.specs.List.{fold}
use Rattle.campl_lex.specs.Limits.{greatest_number}
use Rattle.campl_grammar.specs.Terminal.{digits}
use Rattle.campl_terminals.proofs.digits.digits.Given as goal

abbrev pub invariant-loop-digit : goal.invariant-loop-digit
invariant-loop-digit l = (fold (λ n d. min (n * 10 + (d - 48)) greatest_number) l.value (drop l.digit-index l.text) ≡ digits l.text) × (l.value ≤ greatest_number)
