use Rattle.std.proofs.Common.{◌≡◌, ℕ, ◌+◌, ◌<◌, true, false, cond, List, length, drop, get_or, Some, sym, ap, ◌∙◌}
use Rattle.std.specs.Str.{bytes_eq}
use Rattle.std.proofs.lemmas.List.{at_drop_more, at_drop_all}
use denote.Ref.{Bor}
use Rattle.campl_lex.specs.declared.token.TokenKind.{TokenKind}
use Rattle.campl_lex.specs.Spelling.{kind_in}
use Rattle.campl_lex.specs.Tables.{rows}
use Rattle.campl_lex.proofs.kinds.kind_in.Goals as goal

module _ (table : List (Bor (List ℕ) × TokenKind)) (w : List ℕ) (i : ℕ) (d : Bor (List ℕ) × TokenKind) (here : i < length table) where
  opened : kind_in (rows (drop i table)) w
      ≡ cond (bytes_eq w (get_or table i d).0.now) (Some (get_or table i d).1) (kind_in (rows (drop (i + 1) table)) w)
  opened = at_drop_more (λ t. kind_in (rows t) w) table i d here

  passed : false ≡ bytes_eq w (get_or table i d).0.now → kind_in (rows (drop (i + 1) table)) w ≡ kind_in (rows (drop i table)) w
  passed e = ap (λ b. cond b (Some (get_or table i d).1) (kind_in (rows (drop (i + 1) table)) w)) e ∙ sym opened

  found : true ≡ bytes_eq w (get_or table i d).0.now → Some (get_or table i d).1 ≡ kind_in (rows (drop i table)) w
  found e = ap (λ b. cond b (Some (get_or table i d).1) (kind_in (rows (drop (i + 1) table)) w)) e ∙ sym opened

pub loop-row-preserved : goal.loop-row-preserved
loop-row-preserved c =
    passed c.args.table.now c.args.word.now c.loop-row.row-index _ c.loop-row-test.true (sym c.if-same.false ∙ c.same.ensures) ∙ c.loop-row.invariant

pub returns-then-same : goal.returns-then-same
returns-then-same c =
    found c.args.table.now c.args.word.now c.loop-row.row-index _ c.loop-row-test.true (sym c.if-same.true ∙ c.same.ensures) ∙ c.loop-row.invariant

pub returns : goal.returns
returns c =
    sym (at_drop_all (λ t. kind_in (rows t) c.args.word.now) c.args.table.now c.loop-row.row-index c.loop-row-test.false) ∙ c.loop-row.invariant
