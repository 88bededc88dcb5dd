-- The output couldn't be written.
use Rattle.std.proofs.Common.{inr}
use Rattle.campl_cli.proofs.Streams.{failed_in}
use Rattle.campl_cli.proofs.performance.print.Goals as goal

pub returns-in-Err : goal.returns-in-Err
returns-in-Err g c =
    let failed = failed_in _ c.as_slice.result.now _ c.in-Err.field-0.written c.as_slice.ensures.value c.in-Err.ensures.failed c.in-Err.ensures.front in
    inr (c.report_with.ensures, failed, c.tell_write_fault.ensures)
