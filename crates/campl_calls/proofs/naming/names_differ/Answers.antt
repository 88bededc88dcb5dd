use Rattle.std.proofs.Common.{◌∙◌, sym, ap, subst, []}
use Rattle.campl_tree.specs.View.{view_process_row}
use Rattle.campl_seqcheck.specs.Judged.{fine, Is, and_then}
use Rattle.campl_held.specs.Answered.{Refused}
use Rattle.campl_held.proofs.Told.{stopped}
use Rattle.campl_calls.specs.Headings.{noted_row}
use Rattle.campl_calls.proofs.Noted.{row-noted}
use Rattle.campl_calls.proofs.naming.names_differ.Goals as goal

pub returns-in-Ok : goal.returns-in-Ok
returns-in-Ok c = row-noted (view_process_row c.args.row.now) ∙ ap (λ j. and_then j (λ _. Is fine)) (rw c.new-names.ensures at c.in-Ok.ensures)

pub returns : goal.returns
returns c =
    subst (λ j. Refused j c.in-Err.fault) (sym (row-noted (view_process_row c.args.row.now)))
    (stopped (noted_row [] (view_process_row c.args.row.now)) (λ _. Is fine) c.in-Err.fault (rw c.new-names.ensures at c.in-Err.ensures))
