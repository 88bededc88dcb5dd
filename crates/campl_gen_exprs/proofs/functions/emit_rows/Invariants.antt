use Rattle.std.proofs.Common.{◌≡◌, ◌++◌, map, drop}
use Rattle.campl_tree.specs.View.{view_decl, view_function_row}
use Rattle.campl_gen_exprs.specs.Functions.{function_rows_emitted, function_row_places}
use Rattle.campl_gen_exprs.specs.View.{view_emitter}
use Rattle.campl_gen_exprs.proofs.functions.emit_rows.Given as goal

abbrev pub invariant-loop-i : goal.invariant-loop-i
invariant-loop-i l = record {
  code : function_rows_emitted (map view_decl l.source) (map view_function_row (drop l.i l.rows)) (view_emitter l.code)
      ≡ function_rows_emitted (map view_decl l.source) (map view_function_row l.rows) (view_emitter l.initial.code);
  places : l.places ++ function_row_places (map view_decl l.source) (map view_function_row (drop l.i l.rows)) (view_emitter l.code)
      ≡ l.initial.places ++ function_row_places (map view_decl l.source) (map view_function_row l.rows) (view_emitter l.initial.code);
}
