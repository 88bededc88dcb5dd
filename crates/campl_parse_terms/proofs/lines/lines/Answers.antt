use Rattle.std.proofs.Common.{rules, arith, ◌≡◌, ◌≤◌, ◌+◌, [], ◌∷◌, length, true, false, refl}
use Rattle.campl_gram.specs.Reading.{next_in}
use Rattle.campl_lex.specs.declared.token.TokenKind.TheVariants as k
use Rattle.campl_grammar.specs.Terminal.{terminals}
use Rattle.campl_grammar.proofs.Exactness.{leaves-word}
use Rattle.campl_parse_terms.proofs.LineSteps.{line_fails, line_ends, mark_fails, line_added}
use Rattle.campl_parse_terms.proofs.lines.lines.Goals as goal

pub returns-in-Err : goal.returns-in-Err
returns-in-Err g c one all are calls =
    line_fails c.args.depth one all are c.lines.found c.lines.cursor c.line.new.arg2 _ (c.lines.invariant.kept one all are calls) c.in-Err.fault
    (calls _ _ _ record { shown = _; shows = refl; left = _; met = c.in-Err.ensures; leaves = refl })

pub returns-then-not-at : goal.returns-then-not-at
returns-then-not-at g c one all are calls =
    let none : next_in terminals (k.Semicolon ∷ []) c.line.new.arg2 ≡ false = search rules in
    rw (c.in-Ok-push.ensures.ok)
    (line_ends c.args.depth one all are c.lines.found c.lines.cursor c.line.new.arg2 _ (c.lines.invariant.kept one all are calls) c.in-Ok.found
    (calls _ _ _ record { shown = _; shows = refl; left = _; met = c.in-Ok.ensures; leaves = refl }) none)

pub lines-smaller : goal.lines-smaller
lines-smaller g c =
    let a : length c.line.new.arg2 ≤ length c.lines.cursor = c.requires.shortens _ _ c.in-Ok.found record { shown = _; shows = refl; left = _; met = c.in-Ok.ensures; leaves = refl } in
    let b : length c.expect.new.self + 1 ≤ length c.line.new.arg2 = leaves-word _ _ _ _ _ c.in-Ok-expect.ensures.reads in
    omega arith

pub lines-preserved : goal.lines-preserved
lines-preserved g c = record {
  callable = c.lines.invariant.callable;
  kept = λ one all are calls.
      let some : next_in terminals (k.Semicolon ∷ []) c.line.new.arg2 ≡ true = search rules in
      rw (c.in-Ok-push.ensures.ok)
      (line_added c.args.depth one all are c.lines.found c.lines.cursor c.line.new.arg2 _ (c.lines.invariant.kept one all are calls) c.in-Ok.found
      (calls _ _ _ record { shown = _; shows = refl; left = _; met = c.in-Ok.ensures; leaves = refl }) some _ _ c.in-Ok-expect.ensures.reads);
}

pub returns-in-Err-expect : goal.returns-in-Err-expect
returns-in-Err-expect g c one all are calls =
    let some : next_in terminals (k.Semicolon ∷ []) c.line.new.arg2 ≡ true = search rules in
    mark_fails c.args.depth one all are c.lines.found c.lines.cursor c.line.new.arg2 _ (c.lines.invariant.kept one all are calls) c.in-Ok.found
    (calls _ _ _ record { shown = _; shows = refl; left = _; met = c.in-Ok.ensures; leaves = refl }) some c.in-Err-expect.fault c.expect.new.self c.in-Err-expect.ensures.reads
