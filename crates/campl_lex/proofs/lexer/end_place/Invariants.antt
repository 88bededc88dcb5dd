use Rattle.std.proofs.Common.{◌≡◌, ◌+◌, ◌≤◌, length, drop}
use Rattle.std.specs.Str.{chars}
use Rattle.campl_lex.specs.Spot.{place_past, first_place}
use Rattle.campl_lex.proofs.lexer.end_place.Given as goal

abbrev pub invariant-loop-letter : goal.invariant-loop-letter
invariant-loop-letter l =
    record {
      same : place_past l.place (drop (length l.yielded) (chars l.text)) ≡ place_past first_place (chars l.text);
      line : l.place.line ≤ length l.yielded + 1;
      column : l.place.column ≤ length l.yielded + 1;
    }
