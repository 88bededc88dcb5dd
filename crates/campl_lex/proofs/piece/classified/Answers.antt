use Rattle.std.proofs.Common.{◌≡◌, ◌∙◌, ◌-◌, ◌==◌, sym, false, drop, take, length, arith}
use Rattle.std.proofs.lemmas.Bool.Decides.{nat_tests}
use Rattle.std.proofs.lemmas.List.{take_rest}
use Rattle.campl_lex.proofs.Pieces.{front_name, front_number}
use Rattle.campl_lex.proofs.piece.classified.Goals as goal

pub returns-then-begins_name : goal.returns-then-begins_name
returns-then-begins_name c =
    let text = c.args.text.now in
    let x = c.first-item.result in
    let t : (x == 9) ≡ false = grind (arith, nat_tests) in
    c.name_piece.ensures
    ∙ front_name c.args.place text (take (length text - 1) (drop 1 text)) x c.name_len.result (omega arith) c.first-item.is (take_rest text 1) t
    (sym c.is_white.ensures ∙ c.if-is_white.false) (sym c.begins_comment.ensures ∙ c.if-begins_comment.false)
    (sym c.begins_name.ensures ∙ c.if-begins_name.true) c.name_len.ensures.value

pub returns-then-is_ascii_digit : goal.returns-then-is_ascii_digit
returns-then-is_ascii_digit c =
    let text = c.args.text.now in
    let x = c.first-item.result in
    let t : (x == 9) ≡ false = grind (arith, nat_tests) in
    c.number_piece.ensures
    ∙ front_number c.args.place text (take (length text - 1) (drop 1 text)) x c.digits_len.result (omega arith) c.first-item.is (take_rest text 1) t
    (sym c.is_white.ensures ∙ c.if-is_white.false) (sym c.begins_comment.ensures ∙ c.if-begins_comment.false)
    (sym c.begins_name.ensures ∙ c.if-begins_name.false) (sym c.is_ascii_digit.ensures.value ∙ c.if-is_ascii_digit.true) c.digits_len.ensures.value
