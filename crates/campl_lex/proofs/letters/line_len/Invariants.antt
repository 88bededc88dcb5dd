use Rattle.std.proofs.Common.{◌≡◌, ◌+◌, drop}
use Rattle.std.specs.List.{prefix_len}
use Rattle.std.proofs.Common.{not, ◌==◌}
use Rattle.campl_lex.proofs.letters.line_len.Given as goal

abbrev pub invariant-loop-i : goal.invariant-loop-i
invariant-loop-i l = l.i + prefix_len (λ c. not (c == 10)) (drop l.i l.text) ≡ prefix_len (λ c. not (c == 10)) l.text
