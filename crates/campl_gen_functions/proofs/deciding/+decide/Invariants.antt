-- Each step goes on with less to decide, or with as much in an inner function.
use Rattle.std.proofs.Common.{◌≡◌, ◌+◌, ◌*◌, ◌++◌, map, drop}
use Rattle.campl_tree.specs.View.{view_expr, exprs, view_expr_row, expr_rows, view_decl}
use Rattle.campl_instructions.specs.View.{view_decision}
use Rattle.campl_seqcheck.specs.Steps.{weight, all_weight, rows_weight}
use Rattle.campl_gen_functions.specs.Deciding.{decided_all, decided_rows}
use Rattle.campl_gen_functions.proofs.deciding.+decide.Given as goal

abbrev pub decreases-decide : goal.decreases-decide
decreases-decide l = 8 * weight (view_expr l.e.now)

abbrev pub decreases-decide_three : goal.decreases-decide_three
decreases-decide_three l = 8 * (weight (view_expr l.a.now) + weight (view_expr l.b.now) + weight (view_expr l.c.now)) + 4

abbrev pub decreases-decide_two : goal.decreases-decide_two
decreases-decide_two l = 8 * (weight (view_expr l.a.now) + weight (view_expr l.b.now)) + 4

abbrev pub decreases-decide_case : goal.decreases-decide_case
decreases-decide_case l = 8 * (weight (view_expr l.a.now) + rows_weight (expr_rows (map view_expr_row l.rows.now))) + 7

abbrev pub decreases-decide_all : goal.decreases-decide_all
decreases-decide_all l = 8 * all_weight (exprs (map view_expr l.args.now)) + 1

abbrev pub decreases-decide_rows : goal.decreases-decide_rows
decreases-decide_rows l = 8 * rows_weight (expr_rows (map view_expr_row l.rows.now)) + 5

abbrev pub decreases-decide_row : goal.decreases-decide_row
decreases-decide_row l = 8 * weight (view_expr_row l.row.now).1 + 2

abbrev pub invariant-decide_all-loop-i : goal.invariant-decide_all-loop-i
invariant-decide_all-loop-i l =
    map view_decision l.out ++ decided_all (map view_decl l.world) (exprs (map view_expr (drop l.i l.args)))
    ≡ map view_decision l.initial.out ++ decided_all (map view_decl l.world) (exprs (map view_expr l.args))

abbrev pub invariant-decide_rows-loop-i : goal.invariant-decide_rows-loop-i
invariant-decide_rows-loop-i l =
    map view_decision l.out ++ decided_rows (map view_decl l.world) (expr_rows (map view_expr_row (drop l.i l.rows)))
    ≡ map view_decision l.initial.out ++ decided_rows (map view_decl l.world) (expr_rows (map view_expr_row l.rows))
