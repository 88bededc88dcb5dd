use Rattle.std.proofs.Common.{◌≡◌, drop, map}
use Rattle.campl_tree.specs.View.{view_expr, exprs, view_expr_row, expr_rows, view_decl}
use Rattle.campl_types.specs.Known.{in_exprs, in_expr_rows}
use Rattle.campl_names.proofs.judge_exprs.+expr.Given as goal

abbrev pub invariant-judge_exprs-loop-e : goal.invariant-judge_exprs-loop-e
invariant-judge_exprs-loop-e l =
    (in_exprs (map view_decl l.world) l.scope (exprs (map view_expr (drop l.e-index l.all))) ≡ in_exprs (map view_decl l.world) l.initial.scope (exprs (map view_expr l.all)))
    × (l.scope ≡ l.initial.scope)

abbrev pub invariant-judge_expr_rows-loop-row : goal.invariant-judge_expr_rows-loop-row
invariant-judge_expr_rows-loop-row l =
    (in_expr_rows (map view_decl l.world) l.scope (expr_rows (map view_expr_row (drop l.row-index l.rows))) ≡ in_expr_rows (map view_decl l.world) l.initial.scope (expr_rows (map view_expr_row l.rows)))
    × (l.scope ≡ l.initial.scope)
