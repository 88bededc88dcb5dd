-- Why the command ended before it did what was ordered: each refusal with its status, its line, and when it is due.
use Rattle.std.specs.Prelude.{◌≡◌, ◌⊎◌, ℕ, ◌<◌, List, [], ◌∷◌, ◌++◌, Option, Some, None, IfSome, codes, chars, length, Err, Ok, ⊤}
use Rattle.std.specs.Fmt.{decimal}
use Rattle.campl_text.specs.Counts.{Rose}
use Rattle.campl_text.specs.Reading.{IsReading, IsTextWithin}
use Rattle.campl_text.specs.declared.reading.TextFault.TheVariants as t
use Rattle.campl_tree.specs.declared.decl.Program.{Program}
use Rattle.campl_cli.specs.declared.refusal.Refusal.{Refusal}
use Rattle.campl_cli.specs.declared.refusal.Refusal.TheVariants.{BadCommandLine, ReadFault, TooLong, NotUtf8, Source, Script, OutOfMemory}
use Rattle.campl_cli.specs.Faults.{message_of_fault}
use Rattle.campl_cli.specs.declared.script.ScriptRefusal.TheVariants as script
use Rattle.campl_cli.specs.Scripts.{IsUnmigrated, ScriptTakesMemory, message_of_script, script_limit}
use Rattle.campl_cli.specs.Source.{IsAcceptedAs, IsAcceptedText, IsRefusedFor, IsSourceFault, heading_of}
use Rattle.campl_orders.specs.Orders.{IsOrder, PlainOrder, run, check, code, generate, migrate}
use Rattle.campl_pipeline.specs.Source.{generated_source}
use Rattle.campl_service.specs.Reading.{scripts_of}
use Rattle.campl_tree.specs.declared.service.ServiceName.{ServiceName}

-- the most bytes that a source has
abbrev pub source_limit : ℕ
source_limit = 1048576

abbrev pub status_of : Refusal → ℕ
status_of BadCommandLine = 2
status_of TooLong = 3
status_of (NotUtf8 at) = 3
status_of (Source fault) = 3
status_of (Script why) = 4
status_of ReadFault = 5
status_of OutOfMemory = 7

abbrev pub message_of : Refusal → List ℕ
message_of BadCommandLine = codes "bad command line"
message_of TooLong = codes "source is longer than 1048576 bytes"
message_of (NotUtf8 at) = codes "source isn't UTF-8 at byte " ++ decimal at
message_of (Source fault) = message_of_fault fault
message_of (Script why) = message_of_script why
message_of ReadFault = codes "read fault"
message_of OutOfMemory = codes "out of memory"

-- the refusal's line, which a line feed ends
abbrev pub line_of : Refusal → List ℕ
line_of refusal = codes "campl: " ++ (message_of refusal ++ (10 ∷ []))

-- a line with numbers or names takes memory; any other one stands in the program
abbrev pub TakesMemory : Refusal → Type 0
TakesMemory (NotUtf8 at) = ⊤
TakesMemory (Source fault) = ⊤
TakesMemory BadCommandLine = ⊥
TakesMemory TooLong = ⊥
TakesMemory (Script why) = ScriptTakesMemory why
TakesMemory ReadFault = ⊥
TakesMemory OutOfMemory = ⊥

-- the line of status 6
abbrev pub write_fault_line : List ℕ
write_fault_line = codes "campl: write fault" ++ (10 ∷ [])

-- what the outside holds under each name, where it tells it, and its counts of faults before and after the call
pub record Files : Type 0 where
  pub held : List ℕ → Option (List ℕ)
  pub before : List ℕ → ℕ
  pub after : List ℕ → ℕ

-- a shelf of whatever type, by what contracts see of it
abbrev pub files : {S : Type 0} → (holds : S → List ℕ → Option (List ℕ)) → (faults : S → List ℕ → ℕ) → (old new : S) → Files
files holds faults old new = record { held = holds old; before = faults old; after = faults new }

-- the contents are within the limit and UTF-8, and their text is this
abbrev pub IsText : List ℕ → List ℕ → Type 0
IsText contents text = IsReading contents source_limit (Ok text)

-- the file has this text: that of contents within the limit, and of those that the outside tells, where it does
abbrev pub HasText : Files → (file text : List ℕ) → Type 0
HasText files file text = IsTextWithin source_limit text × IfSome (files.held file) (λ contents. IsText contents text)

-- the same of a script
abbrev pub HasScript : Files → (file text : List ℕ) → Type 0
HasScript files file text = IsTextWithin script_limit text × IfSome (files.held file) (λ contents. IsReading contents script_limit (Ok text))

-- ---- sources

-- the file's source is accepted
abbrev pub IsAcceptedFile : Files → (file : List ℕ) → Type 0
IsAcceptedFile files file = (text : List ℕ) × HasText files file text × IsAcceptedText text

-- when a file's text can't be had so; want of memory alone comes freely
abbrev pub IsUnread : Files → (file : List ℕ) → Refusal → Type 0
IsUnread files file ReadFault = Rose (files.before file) (files.after file)
IsUnread files file TooLong = IfSome (files.held file) (λ contents. source_limit < length contents)
IsUnread files file (NotUtf8 at) = IfSome (files.held file) (λ contents. IsReading contents source_limit (Err (t.NotUtf8 at)))
IsUnread files file OutOfMemory = ⊤
IsUnread files file BadCommandLine = ⊥
IsUnread files file (Source fault) = ⊥
IsUnread files file (Script why) = ⊥

-- when a file's source is refused so, by any order about it: its text can't be had, or is refused
abbrev pub IsRefusedSource : Files → (file : List ℕ) → Refusal → Type 0
IsRefusedSource files file refusal = IsUnread files file refusal ⊎ ((text : List ℕ) × HasText files file text × IsRefusedFor (IsSourceFault text) refusal)

-- ---- scripts

-- when a file's script can't be had so; want of memory alone comes freely
abbrev pub IsUnreadScript : Files → (file : List ℕ) → Refusal → Type 0
IsUnreadScript files file ReadFault = Rose (files.before file) (files.after file)
IsUnreadScript files file (Script script.TooLong) = IfSome (files.held file) (λ contents. script_limit < length contents)
IsUnreadScript files file (Script (script.NotUtf8 at)) = IfSome (files.held file) (λ contents. IsReading contents script_limit (Err (t.NotUtf8 at)))
IsUnreadScript files file OutOfMemory = ⊤
IsUnreadScript files file _ = ⊥

-- when a script is refused so
abbrev pub IsRefusedScript : List ℕ → Refusal → Type 0
IsRefusedScript text (Script why) = IsUnmigrated text why
IsRefusedScript text OutOfMemory = ⊤
IsRefusedScript text _ = ⊥

-- when a file's script isn't migrated, for this reason
abbrev pub IsRefusedMigration : Files → (file : List ℕ) → Refusal → Type 0
IsRefusedMigration files file refusal = IsUnreadScript files file refusal ⊎ ((text : List ℕ) × HasScript files file text × IsRefusedScript text refusal)

-- ---- runs

-- when the lines of a script are refused so, under the names of the heading
abbrev pub IsRefusedLines : List ServiceName → (text : List ℕ) → Refusal → Type 0
IsRefusedLines names text (Script (script.Line fault)) = scripts_of names (chars text) ≡ Err fault
IsRefusedLines names text OutOfMemory = ⊤
IsRefusedLines names text _ = ⊥

-- when a run has no scripts, for this reason: the script of its file can't be had or is refused; without a file memory alone may want
abbrev pub IsRefusedScripts : Files → (script : Option (List ℕ)) → List ServiceName → Refusal → Type 0
IsRefusedScripts files None names refusal = refusal ≡ OutOfMemory
IsRefusedScripts files (Some file) names refusal = IsUnreadScript files file refusal ⊎ ((text : List ℕ) × HasScript files file text × IsRefusedLines names text refusal)

-- when the run of a text is refused so: the text is, or it is accepted, and its scripts are
abbrev pub IsRefusedText : List ℕ → (scripts : List ServiceName → Refusal → Type 0) → Refusal → Type 0
IsRefusedText text scripts refusal = IsRefusedFor (IsSourceFault text) refusal ⊎ ((tree : Program) × IsAcceptedAs text tree × scripts (heading_of tree) refusal)

-- when a file's run is refused so: its text can't be had, or its run is refused
abbrev pub IsRefusedRun : Files → (file : List ℕ) → (script : Option (List ℕ)) → Refusal → Type 0
IsRefusedRun files file script refusal =
    IsUnread files file refusal ⊎ ((text : List ℕ) × HasText files file text × IsRefusedText text (IsRefusedScripts files script) refusal)

-- ---- orders

-- when an order is refused so: its source is, or its script is; a generated source is refused as any other text is
abbrev pub IsRefusedOrder : PlainOrder → Files → Refusal → Type 0
IsRefusedOrder (run file script steps workers) files refusal = IsRefusedRun files file script refusal
IsRefusedOrder (check file) files refusal = IsRefusedSource files file refusal
IsRefusedOrder (code file) files refusal = IsRefusedSource files file refusal
IsRefusedOrder (generate stages workers) files refusal = IsRefusedFor (IsSourceFault (generated_source stages)) refusal
IsRefusedOrder (migrate file) files refusal = IsRefusedMigration files file refusal

-- when a command is refused so: its words are no order, or its order is refused
abbrev pub IsDue : List (List ℕ) → Files → Refusal → Type 0
IsDue words files BadCommandLine = (order : PlainOrder) → ¬ (IsOrder words order)
IsDue words files refusal = (order : PlainOrder) × IsOrder words order × IsRefusedOrder order files refusal
