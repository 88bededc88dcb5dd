use Rattle.std.proofs.Common.{◌≡◌, [], map, drop}
use Rattle.campl_tree.specs.View.{view_hcase_row, hcase_rows, view_decl}
use Rattle.campl_linear.specs.Rows.{rows_offered}
use Rattle.campl_held.specs.Asked.{view_offer}
use Rattle.campl_rows.proofs.Listed.{Together}
use Rattle.campl_rows.proofs.hcase.rows_offered.Given as goal

abbrev pub invariant-loop-i : goal.invariant-loop-i
invariant-loop-i l =
    record {
      told : rows_offered l.x (view_offer (map view_decl l.world) l.offer) l.before (hcase_rows (map view_hcase_row (drop l.i l.rows)))
          ≡ rows_offered l.x (view_offer (map view_decl l.world) l.offer) [] (hcase_rows (map view_hcase_row l.rows));
      names : Together l.before (hcase_rows (map view_hcase_row (drop l.i l.rows))) (hcase_rows (map view_hcase_row l.rows));
    }
