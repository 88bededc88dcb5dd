use Rattle.std.proofs.Common.{map}
use Rattle.campl_tree.specs.View.{view_chan, view_process_row}
use Rattle.campl_calls.proofs.Entered.{inputs-differ, outputs-differ}
use Rattle.campl_calls.proofs.headings.row_holding.Goals as goal

pub enter-requires : goal.enter-requires
enter-requires c = rw (c.new-held.ensures, c.as_slice.ensures) (inputs-differ (view_process_row c.args.p.now.row) c.requires)

pub enter-requires-2 : goal.enter-requires-2
enter-requires-2 c =
    rw (c.in_ok-enter.ensures, c.new-held.ensures, c.as_slice.ensures, c.as_slice-3.ensures)
    (outputs-differ (view_process_row c.args.p.now.row) c.requires (map view_chan c.as_slice-2.result.now))
