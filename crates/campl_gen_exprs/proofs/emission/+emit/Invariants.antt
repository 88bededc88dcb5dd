-- Each step goes on with less to emit, or with as much in an inner function.
use Rattle.std.proofs.Common.{◌≡◌, ◌+◌, ◌*◌, ◌++◌, map, drop}
use Rattle.campl_tree.specs.View.{view_expr, exprs, view_expr_row, expr_rows, view_decl}
use Rattle.campl_seqcheck.specs.Steps.{weight, all_weight, rows_weight}
use Rattle.campl_gen_exprs.specs.Emission.{emitted_all, rows_emitted, row_places, row_ends}
use Rattle.campl_gen_exprs.specs.View.{view_emitter}
use Rattle.campl_gen_exprs.proofs.emission.+emit.Given as goal

abbrev pub decreases-emit : goal.decreases-emit
decreases-emit l = 8 * weight (view_expr l.e.now)

abbrev pub decreases-emit_if : goal.decreases-emit_if
decreases-emit_if l = 8 * (weight (view_expr l.a.now) + weight (view_expr l.b.now) + weight (view_expr l.c.now)) + 4

abbrev pub decreases-emit_and : goal.decreases-emit_and
decreases-emit_and l = 8 * (weight (view_expr l.a.now) + weight (view_expr l.b.now)) + 4

abbrev pub decreases-emit_or : goal.decreases-emit_or
decreases-emit_or l = 8 * (weight (view_expr l.a.now) + weight (view_expr l.b.now)) + 4

abbrev pub decreases-emit_two : goal.decreases-emit_two
decreases-emit_two l = 8 * (weight (view_expr l.a.now) + weight (view_expr l.b.now)) + 4

abbrev pub decreases-emit_one : goal.decreases-emit_one
decreases-emit_one l = 8 * weight (view_expr l.a.now) + 4

abbrev pub decreases-emit_call : goal.decreases-emit_call
decreases-emit_call l = 8 * all_weight (exprs (map view_expr l.args.now)) + 7

abbrev pub decreases-emit_built : goal.decreases-emit_built
decreases-emit_built l = 8 * all_weight (exprs (map view_expr l.args.now)) + 7

abbrev pub decreases-emit_list : goal.decreases-emit_list
decreases-emit_list l = 8 * all_weight (exprs (map view_expr l.args.now)) + 7

abbrev pub decreases-emit_all : goal.decreases-emit_all
decreases-emit_all l = 8 * all_weight (exprs (map view_expr l.args.now)) + 1

abbrev pub decreases-rows::emit_case : goal.decreases-rows::emit_case
decreases-rows::emit_case l = 8 * (weight (view_expr l.a.now) + rows_weight (expr_rows (map view_expr_row l.rows.now))) + 7

abbrev pub decreases-rows::emit_match : goal.decreases-rows::emit_match
decreases-rows::emit_match l = 8 * rows_weight (expr_rows (map view_expr_row l.rows.now)) + 6

abbrev pub decreases-rows::emit_rows : goal.decreases-rows::emit_rows
decreases-rows::emit_rows l = 8 * rows_weight (expr_rows (map view_expr_row l.rows.now)) + 5

abbrev pub decreases-rows::emit_next_row : goal.decreases-rows::emit_next_row
decreases-rows::emit_next_row l = 8 * weight (view_expr_row l.row.now).1 + 3

abbrev pub decreases-rows::emit_row : goal.decreases-rows::emit_row
decreases-rows::emit_row l = 8 * weight (view_expr_row l.row.now).1 + 2

abbrev pub invariant-emit_all-loop-i : goal.invariant-emit_all-loop-i
invariant-emit_all-loop-i l =
    emitted_all (map view_decl l.source) (exprs (map view_expr (drop l.i l.args))) (view_emitter l.code)
    ≡ emitted_all (map view_decl l.source) (exprs (map view_expr l.args)) (view_emitter l.initial.code)

abbrev pub invariant-rows::emit_rows-loop-i : goal.invariant-rows::emit_rows-loop-i
invariant-rows::emit_rows-loop-i l = record {
  code : rows_emitted (map view_decl l.source) l.tail (expr_rows (map view_expr_row (drop l.i l.rows))) (view_emitter l.code)
      ≡ rows_emitted (map view_decl l.source) l.tail (expr_rows (map view_expr_row l.rows)) (view_emitter l.initial.code);
  places : l.made.places ++ row_places (map view_decl l.source) l.tail (expr_rows (map view_expr_row (drop l.i l.rows))) (view_emitter l.code)
      ≡ l.initial.made.places ++ row_places (map view_decl l.source) l.tail (expr_rows (map view_expr_row l.rows)) (view_emitter l.initial.code);
  ends : l.made.ends ++ row_ends (map view_decl l.source) l.tail (expr_rows (map view_expr_row (drop l.i l.rows))) (view_emitter l.code)
      ≡ l.initial.made.ends ++ row_ends (map view_decl l.source) l.tail (expr_rows (map view_expr_row l.rows)) (view_emitter l.initial.code);
}
