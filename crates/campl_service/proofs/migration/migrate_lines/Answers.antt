use Rattle.std.proofs.Common.{◌∙◌, ◌+◌, arith}
use Rattle.std.specs.Prelude.{string_bytes}
use Rattle.campl_service.proofs.Writings.{line_written}
use Rattle.campl_service.proofs.migration.migrate_lines.Goals as goal

pub lines-preserved : goal.lines-preserved
lines-preserved c = (
  line_written (string_bytes c.lines.output) (string_bytes c.migrate_line.new.output) c.split_line.result.0.now c.lines.rest.now c.split_line.result.1.now c.strip_return.result.now c.args.version c.lines.number (c.lines.number + 1)
      c.split_line.ensures.split c.strip_return.ensures (omega arith) c.in_ok-migrate_line.ensures.written
      ∙ c.lines.invariant.0,
  omega (arith, c.in_ok-migrate_line.ensures.few),
)
