-- The line couldn't be written.
use Rattle.std.proofs.Common.{inl, inr, ◌∙◌}
use Rattle.campl_cli.proofs.Streams.{failed_in}
use Rattle.campl_cli.proofs.telling.tell.Goals as goal

pub returns-in-Err : goal.returns-in-Err
returns-in-Err g c =
    let failed = failed_in _ c.as_bytes.result.now _ c.in-Err.field-0.written (c.as_bytes.ensures.value ∙ c.requires) c.in-Err.ensures.failed c.in-Err.ensures.front in
    let status = c.nothing_ran-in-Err.ensures.status in
    record {
      no_run = c.nothing_ran-in-Err.ensures.no_run;
      answer = elim c.status_unwritten.ensures [
        | inl memory ↦ inl (status ∙ memory.1, inr (memory.0, failed))
        | inr other ↦ inr (status ∙ other.1, other.0, failed)
      ];
    }
