-- What an order came to and prints, before any of it is written.
use Rattle.std.specs.Prelude.{◌≡◌, ◌⊎◌, ℕ, List, [], ◌++◌, None}
use Rattle.campl_parts.specs.Journal.{weight_of}
use Rattle.campl_cli.specs.declared.performance.Performance.{Performance}
use Rattle.campl_cli.specs.declared.report.Report.{Report}
use Rattle.campl_cli.specs.Refusals.{Files, IsAcceptedFile, write_fault_line}
use Rattle.campl_cli.specs.Runs.{RunsFile, RunsGenerated, status_by}
use Rattle.campl_orders.specs.Orders.{PlainOrder, run, check, code, generate, migrate}
use Rattle.campl_cli.specs.Told.{ListsFile, MigratesFile, accepted_line}
use Rattle.campl_cli.specs.Answer.{Stream, Had, HadNothing, HadOrFailed, FailedIn}

-- the report of this, with this status
abbrev pub report_with : (status : ℕ) → Performance → Report
report_with status p = record { status = status; ended = p.ended; steps = weight_of p.journal.entries; journal = p.journal }

-- the report of what was done where its output is written
abbrev pub report_of : Performance → Report
report_of p = report_with (status_by p.ended) p

-- nothing ran, and this is told
pub record IsTelling (output : List ℕ) (performance : Performance) : Type 0 where
  pub entries : performance.journal.entries ≡ []
  pub ended : performance.ended ≡ None
  pub told : performance.output.items ≡ output

-- it is the same with this line before its output
pub record IsHeaded (line : List ℕ) (before after : Performance) : Type 0 where
  pub journal : after.journal ≡ before.journal
  pub ended : after.ended ≡ before.ended
  pub output : after.output.items ≡ line ++ before.output.items

-- what is done by an order that isn't refused
abbrev pub IsDone : PlainOrder → Files → Performance → Type 0
IsDone (run file script steps workers) files performance = RunsFile files file script steps (report_of performance) performance.output.items
IsDone (check file) files performance = IsAcceptedFile files file × IsTelling accepted_line performance
IsDone (code file) files performance = (output : List ℕ) × ListsFile files file output × IsTelling output performance
IsDone (generate stages workers) files performance = RunsGenerated stages (report_of performance) performance.output.items
IsDone (migrate file) files performance = (output : List ℕ) × MigratesFile files file output × IsTelling output performance

-- the output is written, or couldn't be, and what was done is reported
abbrev pub IsPrinted : Performance → (out err : Stream) → Report → Type 0
IsPrinted performance out err report =
    ((report ≡ report_of performance) × Had out performance.output.items × HadNothing err)
    ⊎ ((report ≡ report_with 6 performance) × FailedIn out performance.output.items × HadOrFailed err write_fault_line)
