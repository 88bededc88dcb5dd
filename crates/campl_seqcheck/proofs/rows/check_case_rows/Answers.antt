use Rattle.std.proofs.Common.{[], ◌∷◌, sym, ap, map}
use Rattle.campl_tree.specs.View.{view_seq, view_decl}
use Rattle.campl_seqcheck.specs.Judged.{fine}
use Rattle.campl_seqcheck.specs.RowPatterns.{judge_match}
use Rattle.campl_seqcheck.proofs.Answered.{follows}
use Rattle.campl_seqcheck.proofs.RowsJudged.{cases-are}
use Rattle.campl_seqcheck.proofs.rows.check_case_rows.Goals as goal

pub returns : goal.returns
returns c =
    follows (λ _. fine) _ _ _ (ap (λ rows. judge_match c.args.at (map view_decl c.args.world.now) (view_seq c.args.t.now ∷ []) rows) (sym (cases-are c.args.at c.args.rows.now)))
    (rw c.from_ref.ensures.value at c.check_match.ensures)
