-- What the command answers, and what it has written by then.
use Rattle.std.specs.Prelude.{◌≡◌, ◌≢◌, ℕ, ◌⊎◌, List, [], ◌++◌, Option, None}
use Rattle.std.specs.Io.KnownBytes.{Appends}
use Rattle.campl_text.specs.Counts.{Rose}
use Rattle.campl_cli.specs.declared.refusal.Refusal.{Refusal}
use Rattle.campl_cli.specs.declared.refusal.Refusal.TheVariants.{OutOfMemory}
use Rattle.campl_cli.specs.declared.report.Report.{Report}
use Rattle.campl_cli.specs.Refusals.{Files, IsAcceptedFile, IsDue, TakesMemory, status_of, line_of, write_fault_line}
use Rattle.campl_cli.specs.Runs.{RunsFile, RunsGenerated, status_by}
use Rattle.campl_cli.specs.Told.{ListsFile, MigratesFile, accepted_line}
use Rattle.campl_orders.specs.Orders.{IsOrder, PlainOrder, run, check, code, generate, migrate}

-- what a stream has had before and after the call, where it tells it, and its counts of faults
pub record Stream : Type 0 where
  pub before : Option (List ℕ)
  pub after : Option (List ℕ)
  pub faults_before : ℕ
  pub faults_after : ℕ

-- a stream of whatever type, by what contracts see of it
abbrev pub stream : {S : Type 0} → (written : S → Option (List ℕ)) → (faults : S → ℕ) → (old new : S) → Stream
stream written faults old new = record { before = written old; after = written new; faults_before = faults old; faults_after = faults new }

-- it has had nothing in this call
abbrev pub HadNothing : Stream → Type 0
HadNothing s = s.after ≡ s.before

-- it has had exactly these bytes in this call
abbrev pub Had : Stream → List ℕ → Type 0
Had s bytes = Appends s.before s.after bytes

-- its count of faults rose, and it has had no more than a front of these bytes
abbrev pub FailedIn : Stream → List ℕ → Type 0
FailedIn s bytes = Rose s.faults_before s.faults_after × ((front : List ℕ) × (rest : List ℕ) × (front ++ rest ≡ bytes) × Had s front)

-- it has had these bytes, or failed in them
abbrev pub HadOrFailed : Stream → List ℕ → Type 0
HadOrFailed s bytes = Had s bytes ⊎ FailedIn s bytes

-- nothing ran
pub record HasNoRun (report : Report) : Type 0 where
  pub entries : report.journal.entries ≡ []
  pub steps : report.steps ≡ 0
  pub ended : report.ended ≡ None

-- what each order does that isn't refused
abbrev pub Does : PlainOrder → Files → Report → (output : List ℕ) → Type 0
Does (run file script steps workers) files report output = RunsFile files file script steps report output
Does (check file) files report output = HasNoRun report × IsAcceptedFile files file × (output ≡ accepted_line)
Does (code file) files report output = HasNoRun report × ListsFile files file output
Does (generate stages workers) files report output = RunsGenerated stages report output
Does (migrate file) files report output = HasNoRun report × MigratesFile files file output

-- it was done, and its output is written; the status tells how a run ended
pub record Did (words : List (List ℕ)) (files : Files) (out err : Stream) (report : Report) : Type 0 where
  pub status : report.status ≡ status_by report.ended
  pub order : PlainOrder
  pub is : IsOrder words order
  pub output : List ℕ
  pub does : Does order files report output
  pub written : Had out output
  pub silent : HadNothing err

-- it was done, and its output couldn't be written
pub record CouldNotPrint (words : List (List ℕ)) (files : Files) (out err : Stream) (report : Report) : Type 0 where
  pub status : report.status ≡ 6
  pub order : PlainOrder
  pub is : IsOrder words order
  pub output : List ℕ
  pub does : Does order files report output
  pub failed : FailedIn out output
  pub told : HadOrFailed err write_fault_line

-- it was refused, and the refusal's line is written; want of memory is answered also where its line couldn't be written
pub record WasRefused (words : List (List ℕ)) (files : Files) (out err : Stream) (report : Report) : Type 0 where
  pub refusal : Refusal
  pub status : report.status ≡ status_of refusal
  pub due : IsDue words files refusal
  pub no_run : HasNoRun report
  pub no_output : HadNothing out
  pub told : Had err (line_of refusal) ⊎ ((refusal ≡ OutOfMemory) × FailedIn err (line_of refusal))

-- it was refused, and the refusal's line couldn't be written
pub record CouldNotTell (words : List (List ℕ)) (files : Files) (out err : Stream) (report : Report) : Type 0 where
  pub status : report.status ≡ 6
  pub refusal : Refusal
  pub due : IsDue words files refusal
  pub other : refusal ≢ OutOfMemory
  pub no_run : HasNoRun report
  pub no_output : HadNothing out
  pub told : FailedIn err (line_of refusal)

-- the four ways in which the command ends
abbrev pub IsAnswer : List (List ℕ) → Files → (out err : Stream) → Report → Type 0
IsAnswer words files out err report =
    Did words files out err report ⊎ (CouldNotPrint words files out err report ⊎ (WasRefused words files out err report ⊎ CouldNotTell words files out err report))

-- the refusal's line is written and its status answered, or 6 where the line couldn't be written
pub record IsTold (refusal : Refusal) (err : Stream) (report : Report) : Type 0 where
  pub no_run : HasNoRun report
  pub answer : ((report.status ≡ status_of refusal) × (Had err (line_of refusal) ⊎ ((refusal ≡ OutOfMemory) × FailedIn err (line_of refusal))))
      ⊎ ((report.status ≡ 6) × (refusal ≢ OutOfMemory) × FailedIn err (line_of refusal))

-- the same, but for want of memory, which may come in the place of a refusal whose line takes memory
abbrev pub IsRefused : Refusal → Stream → Report → Type 0
IsRefused refusal err report = IsTold refusal err report ⊎ (TakesMemory refusal × IsTold OutOfMemory err report)
