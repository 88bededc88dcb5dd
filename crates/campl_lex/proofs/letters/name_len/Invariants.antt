use Rattle.std.proofs.Common.{◌≡◌, ◌+◌, drop}
use Rattle.std.specs.List.{prefix_len}
use Rattle.campl_lex.specs.Spelling.{goes_on}
use Rattle.campl_lex.proofs.letters.name_len.Given as goal

abbrev pub invariant-loop-i : goal.invariant-loop-i
invariant-loop-i l = l.i + prefix_len goes_on (drop l.i l.text) ≡ prefix_len goes_on l.text
