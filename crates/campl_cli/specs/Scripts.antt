-- Scripts that are migrated: what becomes of a file's script, and why it is refused.
use Rattle.std.specs.Prelude.{◌≡◌, ℕ, List, ◌++◌, codes, chars, Ok, Err, ⊤}
use Rattle.std.specs.Fmt.{decimal}
use Rattle.campl_service.specs.declared.fault.ScriptFault.{ScriptFault}
use Rattle.campl_service.specs.declared.fault.ScriptFault.TheVariants as s
use Rattle.campl_service.specs.declared.fault.MigrateFault.TheVariants as m
use Rattle.campl_service.specs.Migration.{migrated, migration}
use Rattle.campl_cli.specs.declared.script.ScriptRefusal.{ScriptRefusal}
use Rattle.campl_cli.specs.declared.script.ScriptRefusal.TheVariants.{TooLong, NotUtf8, Line, MigratedTooLong}

-- the most bytes that a script has
abbrev pub script_limit : ℕ
script_limit = 16777216

-- the text is a script, which is this in version 2
abbrev pub IsMigrated : (text output : List ℕ) → Type 0
IsMigrated text output = migration (migrated (chars text)) ≡ Ok output

-- when a text can't be migrated so
abbrev pub IsUnmigrated : List ℕ → ScriptRefusal → Type 0
IsUnmigrated text (Line fault) = migration (migrated (chars text)) ≡ Err (m.Script fault)
IsUnmigrated text MigratedTooLong = migration (migrated (chars text)) ≡ Err m.TooLong
IsUnmigrated text TooLong = ⊥
IsUnmigrated text (NotUtf8 at) = ⊥

-- ---- lines

-- what is wrong with a line; want of memory is no fault of one
abbrev pub what_is_wrong : ScriptFault → List ℕ
what_is_wrong (s.NoColon line) = codes "no colon"
what_is_wrong (s.UnknownChannel line) = codes "unknown channel"
what_is_wrong (s.LineTooLong line) = codes "too long"
what_is_wrong (s.TooManyLines line) = codes "too many lines"
what_is_wrong (s.BadEscape line) = codes "bad escape"
what_is_wrong s.OutOfMemory = codes "out of memory"

abbrev pub line_number : ScriptFault → ℕ
line_number (s.NoColon line) = line
line_number (s.UnknownChannel line) = line
line_number (s.LineTooLong line) = line
line_number (s.TooManyLines line) = line
line_number (s.BadEscape line) = line
line_number s.OutOfMemory = 0

abbrev pub message_of_script : ScriptRefusal → List ℕ
message_of_script TooLong = codes "script is longer than 16777216 bytes"
message_of_script (NotUtf8 at) = codes "script isn't UTF-8 at byte " ++ decimal at
message_of_script (Line fault) = codes "script line " ++ (decimal (line_number fault) ++ (codes ": " ++ what_is_wrong fault))
message_of_script MigratedTooLong = codes "migrated script is longer than 16777216 bytes"

-- a line with a number takes memory; the other ones stand in the program
abbrev pub ScriptTakesMemory : ScriptRefusal → Type 0
ScriptTakesMemory (NotUtf8 at) = ⊤
ScriptTakesMemory (Line fault) = ⊤
ScriptTakesMemory TooLong = ⊥
ScriptTakesMemory MigratedTooLong = ⊥
