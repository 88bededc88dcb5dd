use Rattle.std.proofs.Common.{◌∙◌, refl, map}
use Rattle.campl_tree.specs.View.{view_seq, view_expr, view_decl}
use Rattle.campl_vars.specs.Variables.{view_vars}
use Rattle.campl_seqcheck.specs.Judged.{fine}
use Rattle.campl_seqcheck.proofs.Answered.{follows, stopped, handed}
use Rattle.campl_seqcheck.proofs.RowsJudged.{checked-so}
use Rattle.campl_seqcheck.proofs.functions.check_expr.Goals as goal

pub returns-in_err-judge-clause-judged : goal.returns-in_err-judge-clause-judged
returns-in_err-judge-clause-judged c =
    follows (λ _. fine) _ _ _ (checked-so (map view_decl c.args.world.now) (view_vars c.args.vars.now) (view_expr c.args.expr.now) (view_seq c.args.wanted.now)) (handed (λ _. fine) _ _ _ (stopped _ _ _ c.in_err-judge.ensures.judged) c.from_residual.ensures)

pub returns-clause-judged : goal.returns-clause-judged
returns-clause-judged c =
    checked-so (map view_decl c.args.world.now) (view_vars c.args.vars.now) (view_expr c.args.expr.now) (view_seq c.args.wanted.now) ∙ rw (c.in_ok-judge.ensures.judged) refl
