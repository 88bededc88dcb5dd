use Rattle.std.proofs.Common.{map}
use Rattle.campl_tree.specs.View.{view_seq, view_decl}
use Rattle.campl_seqcheck.proofs.Answered.{loop-went, loop-stopped}
use Rattle.campl_seqcheck.proofs.RowsJudged.{row-at}
use Rattle.campl_seqcheck.proofs.rows.fit_rows.Goals as goal

pub returns-in_err-fit_row : goal.returns-in_err-fit_row
returns-in_err-fit_row g c =
    loop-stopped _ _ _ _ _ _ _ (rw c.patterns-ps.ensures at c.in_err-fit_row.ensures) c.from_residual.ensures
    (row-at g.R.Row.patterns c.args.at (map view_decl c.args.world.now) (map view_seq c.args.types.now) c.args.rows.now c.loop-i.i c.index-rows-i.result c.loop-i-test.true c.index-rows-i.is) c.loop-i.invariant

pub loop-i-preserved : goal.loop-i-preserved
loop-i-preserved g c =
    loop-went _ _ _ _ _ (rw c.patterns-ps.ensures at c.in_ok-fit_row.ensures)
    (row-at g.R.Row.patterns c.args.at (map view_decl c.args.world.now) (map view_seq c.args.types.now) c.args.rows.now c.loop-i.i c.index-rows-i.result c.loop-i-test.true c.index-rows-i.is) c.loop-i.invariant
