use Rattle.std.proofs.Common.{◌∙◌, sym, ap, map}
use Rattle.campl_tree.specs.View.{view_seq, view_decl}
use Rattle.campl_linear.specs.Judged.{from_seq}
use Rattle.campl_rows.proofs.Matched.{match-is, match-stopped}
use Rattle.campl_rows.proofs.case.rows_match.Goals as goal

pub returns-in-Ok : goal.returns-in-Ok
returns-in-Ok c =
    sym (match-is (map view_decl c.args.world.now) c.args.at (view_seq c.args.t.now) c.args.rows.now) ∙ ap from_seq (rw c.from_ref.ensures.value at c.in-Ok.ensures)

pub returns-in-Err : goal.returns-in-Err
returns-in-Err c =
    match-stopped (map view_decl c.args.world.now) c.args.at (view_seq c.args.t.now) c.args.rows.now _ _ (rw c.from_ref.ensures.value at c.in-Err.ensures) c.of_seq.ensures
