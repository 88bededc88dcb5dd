use Rattle.std.proofs.Common.{◌≡◌, ◌+◌, ◌<◌, ◌^◌, length, drop}
use Rattle.campl_lex.specs.Spot.{bytes, place_past}
use Rattle.campl_lex.proofs.spot.past.Given as goal

abbrev pub invariant-loop-letter : goal.invariant-loop-letter
invariant-loop-letter l =
    record {
      at : l.at + bytes (drop l.letter-index l.text) ≡ l.fn.spot.at + bytes l.text;
      place : place_past l.place (drop l.letter-index l.text) ≡ place_past l.fn.spot.place l.text;
      line : l.place.line + length (drop l.letter-index l.text) < 2 ^ 32;
      column : l.place.column + length (drop l.letter-index l.text) < 2 ^ 32;
    }
