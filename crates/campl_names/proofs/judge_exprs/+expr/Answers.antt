use Rattle.std.proofs.Common.{refl, map, arith}
use Rattle.campl_tree.specs.View.{view_decl, view_expr, exprs, view_expr_row, expr_rows}
use Rattle.campl_types.specs.Known.{in_exprs, in_expr_rows}
use Rattle.campl_names.proofs.Judged.{loop-stopped}
use Rattle.campl_names.proofs.judge_exprs.+expr.Goals as goal

pub judge_exprs-returns-in_err-judge_expr-clause-judged : goal.judge_exprs-returns-in_err-judge_expr-clause-judged
judge_exprs-returns-in_err-judge_expr-clause-judged t c =
    loop-stopped (λ q. in_exprs (map view_decl c.args.world.now) c.loop-e.scope (exprs (map view_expr q))) c.args.all.now c.loop-e.e-index c.e-item.result _ _ _ _ _ c.in_err-judge_expr.ensures.judged c.from_residual.ensures (omega (arith, c.loop-e-test.true)) c.e-item.is c.loop-e.invariant.0 refl

pub judge_expr_rows-returns-in_err-judge_expr_row-clause-judged : goal.judge_expr_rows-returns-in_err-judge_expr_row-clause-judged
judge_expr_rows-returns-in_err-judge_expr_row-clause-judged t c =
    loop-stopped (λ q. in_expr_rows (map view_decl c.args.world.now) c.loop-row.scope (expr_rows (map view_expr_row q))) c.args.rows.now c.loop-row.row-index c.row-item.result _ _ _ _ _ c.in_err-judge_expr_row.ensures.judged c.from_residual.ensures (omega (arith, c.loop-row-test.true)) c.row-item.is c.loop-row.invariant.0 refl
