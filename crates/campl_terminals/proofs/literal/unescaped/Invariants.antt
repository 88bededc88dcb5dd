use Rattle.std.proofs.Common.{◌≡◌, ◌++◌, length, chars}
use denote.Text.{Utf8}
use denote.Shadow.{shadow}
use Rattle.campl_lex.specs.Meaning.{unescaped}
use Rattle.campl_terminals.proofs.literal.unescaped.Given as goal

abbrev pub invariant-loop-letter : goal.invariant-loop-letter
invariant-loop-letter l = shadow (Utf8 l.rest) × (l.found ++ unescaped 0 (chars l.rest) ≡ unescaped 0 (chars l.text))

abbrev pub decreases-loop-letter : goal.decreases-loop-letter
decreases-loop-letter l = length (chars l.rest)
