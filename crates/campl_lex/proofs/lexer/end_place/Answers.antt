use Rattle.std.proofs.Common.{◌≡◌, ◌+◌, ◌++◌, [], ◌∷◌, length, drop, sym, ap, ◌∙◌, arith}
use Rattle.std.specs.Str.{chars}
use Rattle.std.proofs.lemmas.Iterator.{YieldsList-from_chars}
use Rattle.std.proofs.lemmas.Iterator.Consumers.{YieldsList-turn, YieldsList-end}
use Rattle.std.proofs.lemmas.List.{at_drop_all, length_push}
use Rattle.campl_tree.specs.declared.place.Place.{Place}
use Rattle.campl_lex.specs.Spot.{after, place_past}
use Rattle.campl_lex.proofs.Spots.{place_turn, line_after, column_after}
use Rattle.campl_lex.proofs.lexer.end_place.Goals as goal

pub loop-letter-preserved : goal.loop-letter-preserved
loop-letter-preserved c =
    let cs = chars c.args.text.now in
    let letter = c.in-Some.letter in
    let seen = c.loop-letter.yielded in
    let t = YieldsList-turn (YieldsList-from_chars c.args.text.now c.utf8.text cc) seen _ c.loop-letter.yielded_by _ _ letter c.in-Some.is c.next.ensures.steps in
    let more : length (seen ++ letter ∷ []) ≡ length seen + 1 = length_push seen letter in
    let line : c.after-place.result.line ≡ (after c.loop-letter.place letter).line = ap (λ (p : Place). p.line) c.after-place.ensures in
    let column : c.after-place.result.column ≡ (after c.loop-letter.place letter).column = ap (λ (p : Place). p.column) c.after-place.ensures in
    record {
      same =
          ap (λ p. place_past p (drop (length (seen ++ letter ∷ [])) cs)) c.after-place.ensures
          ∙ ap (λ n. place_past (after c.loop-letter.place letter) (drop n cs)) more
          ∙ sym (place_turn c.loop-letter.place cs (length seen) letter t)
          ∙ c.loop-letter.invariant.same;
      line = omega (arith, line_after c.loop-letter.place letter, c.loop-letter.invariant.line);
      column = omega (arith, column_after c.loop-letter.place letter, c.loop-letter.invariant.column);
    }

pub returns : goal.returns
returns c =
    let cs = chars c.args.text.now in
    let t = YieldsList-end (YieldsList-from_chars c.args.text.now c.utf8.text cc) c.loop-letter.yielded _ c.loop-letter.yielded_by _ _ c.in-None.is c.next.ensures.steps in
    sym (at_drop_all (place_past c.loop-letter.place) cs (length c.loop-letter.yielded) (omega (arith, t.1))) ∙ c.loop-letter.invariant.same
