use Rattle.std.proofs.Common.{◌≡◌, ◌+◌, ◌≤◌, length}
use Rattle.campl_lex.specs.Spot.{bytes, first_spot}
use Rattle.campl_lex.specs.Reading.{lexed}
use Rattle.campl_lex.specs.Layout.{adds}
use Rattle.campl_lex.proofs.lexer.tokens_of.Given as goal

abbrev pub invariant-loop-rest : goal.invariant-loop-rest
invariant-loop-rest l =
    record {
      same : adds l.tokens.items (lexed 0 l.spot l.rest) ≡ lexed 0 first_spot l.fn.text;
      at : l.spot.at + bytes l.rest ≤ 4294967294;
      line : l.spot.place.line + length l.rest ≤ 4294967295;
      column : l.spot.place.column + length l.rest ≤ 4294967295;
    }

abbrev pub decreases-loop-rest : goal.decreases-loop-rest
decreases-loop-rest l = length l.rest
