use Rattle.campl_seqcheck.proofs.RowsJudged.{asked-so, forms-more}
use Rattle.campl_seqcheck.proofs.rows.forms_of_rows.Goals as goal

pub loop-row-preserved : goal.loop-row-preserved
loop-row-preserved g c =
    forms-more g.R.Row.patterns c.args.rows.now c.loop-row.row-index c.row-item.result c.loop-row.forms c.push.new.self c.in_ok-row_forms.row_forms c.loop-row-test.true c.row-item.is c.loop-row.invariant
    (asked-so _ _ _ c.patterns-ps.ensures c.in_ok-row_forms.ensures) c.in_ok-push.ensures.ok
