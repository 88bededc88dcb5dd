use Rattle.std.proofs.Common.{◌≡◌, ◌<◌, ◌+◌, ◌-◌, ◌++◌, length, take, drop, sym, ap, ◌∙◌, arith, Err, length-take, length-drop}
use Rattle.std.proofs.lemmas.Grind.{common_steps}
use Rattle.std.proofs.lemmas.List.{take_rest}
use Rattle.campl_lex.specs.declared.spot.Spot.{Spot}
use Rattle.campl_lex.specs.Spot.{first_spot, place_past, bytes}
use Rattle.campl_lex.specs.Reading.{lexed, tokens_of}
use Rattle.campl_lex.specs.Layout.{adds}
use Rattle.campl_lex.proofs.Spots.{length_le_bytes, bytes_split, line_past, column_past}
use Rattle.campl_lex.proofs.Follows.{answers_from}
use Rattle.campl_lex.proofs.Lexing.{adds_none, goes_on, fails_here, ends_here}
use Rattle.campl_lex.proofs.lexer.tokens_of.Goals as goal

pub loop-rest-init : goal.loop-rest-init
loop-rest-init c =
    let text = c.args.text.now in
    let s = c.first_spot-spot.result in
    let at : s.at ≡ 0 = ap (λ (t : Spot). t.at) c.first_spot-spot.ensures in
    let line : s.place.line ≡ 1 = ap (λ (t : Spot). t.place.line) c.first_spot-spot.ensures in
    let column : s.place.column ≡ 1 = ap (λ (t : Spot). t.place.column) c.first_spot-spot.ensures in
    record {
      same =
          ap (λ l. adds l (lexed 0 s text)) c.new-tokens.ensures.items
          ∙ sym (adds_none (lexed 0 s text))
          ∙ ap (λ t. lexed 0 t text) c.first_spot-spot.ensures;
      at = omega (arith, c.requires);
      line = omega (arith, length_le_bytes text, c.requires);
      column = omega (arith, length_le_bytes text, c.requires);
    }

pub returns-in_err-piece : goal.returns-in_err-piece
returns-in_err-piece c =
    let whole = lexed 0 first_spot c.args.text.now in
    let fault = c.in_err-piece.field-0.0 in
    let rest = c.loop-rest.rest.now in
    let some : 0 < length rest = grind (arith, common_steps) in
    let wanted : whole ≡ Err fault = fails_here c.loop-rest.tokens.items c.loop-rest.spot rest whole some c.loop-rest.invariant.same fault (sym c.in_err-piece.ensures.piece) in
    answers_from whole c.from_residual.result _ c.from_residual.ensures (λ f g. let e : fault ≡ f = cc in wanted ∙ ap (λ x. Err x) e)

pub past-behind-requires-clause-at : goal.past-behind-requires-clause-at
past-behind-requires-clause-at c =
    omega (arith, bytes_split c.in_ok-piece.piece.length c.loop-rest.rest.now, c.loop-rest.invariant.at)

pub loop-rest-preserved : goal.loop-rest-preserved
loop-rest-preserved c =
    let whole = lexed 0 first_spot c.args.text.now in
    let rest = c.loop-rest.rest.now in
    let out = c.loop-rest.tokens.items in
    let found = c.in_ok-piece.piece in
    let n = found.length in
    let s = c.loop-rest.spot in
    let behind = c.past-behind.result in
    let left = take (length rest - n) (drop n rest) in
    let some : 0 < length rest = grind (arith, common_steps) in
    let same_rest : left ≡ drop n rest = take_rest rest n in
    let at : behind.at ≡ s.at + bytes (take n rest) = ap (λ (t : Spot). t.at) c.past-behind.ensures in
    let line : behind.place.line ≡ (place_past s.place (take n rest)).line = ap (λ (t : Spot). t.place.line) c.past-behind.ensures in
    let column : behind.place.column ≡ (place_past s.place (take n rest)).column = ap (λ (t : Spot). t.place.column) c.past-behind.ensures in
    let size : bytes left ≡ bytes (drop n rest) = ap bytes same_rest in
    let count : length left ≡ length (drop n rest) = ap length same_rest in
    record {
      same =
          ap (λ l. adds l (lexed 0 behind left)) c.in_ok-push_token.ensures.ok
          ∙ ap (λ t. adds (out ++ tokens_of found.kind s behind) (lexed 0 behind t)) same_rest
          ∙ ap (λ t. adds (out ++ tokens_of found.kind s t) (lexed 0 t (drop n rest))) c.past-behind.ensures
          ∙ goes_on out s rest whole some c.loop-rest.invariant.same found c.in_ok-piece.ensures.moves (sym c.in_ok-piece.ensures.piece);
      at = omega (arith, bytes_split n rest, c.loop-rest.invariant.at);
      line = omega (arith, line_past s.place (take n rest), length-take n rest, length-drop n rest, c.loop-rest.invariant.line, c.in_ok-piece.ensures.within);
      column = omega (arith, column_past s.place (take n rest), length-take n rest, length-drop n rest, c.loop-rest.invariant.column, c.in_ok-piece.ensures.within);
    }

pub returns : goal.returns
returns c = ends_here c.loop-rest.tokens.items c.loop-rest.spot c.loop-rest.rest.now (lexed 0 first_spot c.args.text.now) (grind (arith, common_steps)) c.loop-rest.invariant.same
