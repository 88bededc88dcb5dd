use Rattle.std.proofs.Common.{map}
use Rattle.campl_tree.specs.View.{view_decl, view_hcase_row, hcase_rows}
use Rattle.campl_held.specs.Asked.{view_offer}
use Rattle.campl_rows.proofs.Covered.{rows-judged, rows-refused}
use Rattle.campl_rows.proofs.hcase.rows_stand.Goals as goal

pub returns-in-Ok-each_has_row : goal.returns-in-Ok-each_has_row
returns-in-Ok-each_has_row c =
    rows-judged c.args.at c.args.x.now (view_offer (map view_decl c.args.world.now) c.args.offer) (hcase_rows (map view_hcase_row c.args.rows.now)) c.in-Ok.names c.in-Ok.ensures.judged c.in-Ok.ensures.names
    c.some_row.result c.in-Ok-each_has_row.ensures c.some_row.ensures

pub returns : goal.returns
returns c =
    rows-refused c.args.at c.args.x.now (view_offer (map view_decl c.args.world.now) c.args.offer) (hcase_rows (map view_hcase_row c.args.rows.now)) c.in-Ok.names c.in-Ok.ensures.judged c.in-Ok.ensures.names
    c.in-Err-each_has_row.fault c.in-Err-each_has_row.ensures
