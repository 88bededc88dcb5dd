-- The line couldn't be written.
use Rattle.std.proofs.Common.{inr}
use Rattle.campl_cli.proofs.Streams.{failed_in}
use Rattle.campl_cli.proofs.performance.tell_write_fault.Goals as goal

pub returns-in-Err : goal.returns-in-Err
returns-in-Err g c = inr (failed_in _ c.as_bytes.result.now _ c.in-Err.field-0.written c.as_bytes.ensures.value c.in-Err.ensures.failed c.in-Err.ensures.front)
