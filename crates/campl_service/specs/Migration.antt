-- What a script becomes in version 2. A character is its code: 10 is LF.
use Rattle.std.specs.Prelude.{◌≡◌, ◌≢◌, ℕ, suc, nat_le, if◌then◌else◌, List, [], ◌∷◌, ◌++◌, length, take, Option, Some, None, Result, Ok, Err, MatchResult, codes, encode_utf8_all}
use Rattle.campl_value.specs.Shown.{shown_text}
use Rattle.campl_service.specs.declared.entry.Version.{Version}
use Rattle.campl_service.specs.declared.entry.Version.TheVariants.{One, Two}
use Rattle.campl_service.specs.declared.entry.Entry.{Entry}
use Rattle.campl_service.specs.declared.fault.ScriptFault.{ScriptFault}
use Rattle.campl_service.specs.Scripts.{Lines}
use Rattle.campl_service.specs.Reading.{Said, colon_at, place_of_any, judged_line, is_version_line, lines_of}
use Rattle.campl_service.specs.declared.limits.TheConstants.{SCRIPT_BYTES_MAX}
use Rattle.campl_service.specs.declared.fault.MigrateFault.{MigrateFault}
use Rattle.campl_service.specs.declared.fault.MigrateFault.TheVariants.{Script, TooLong, OutOfMemory}

-- what stands before the first colon
abbrev pub name_of : List ℕ → List ℕ
name_of line = take (colon_at line) line

-- a line as version 2 writes it: its name, a colon, a space and its text with escapes; one that says nothing is empty
abbrev pub rewritten : (name : List ℕ) → Option Entry → List ℕ
rewritten name None = []
rewritten name (Some said) = name ++ (codes ": " ++ shown_text said.text)

-- the characters that are written, or the first fault
abbrev pub Writing : Type 0
Writing = Result (List ℕ) ScriptFault

-- the same with its end
abbrev pub with_end : (name : List ℕ) → Said → Writing
with_end name (Ok said) = Ok (rewritten name said ++ 10 ∷ [])
with_end name (Err fault) = Err fault

abbrev pub migrated_line : Version → ℕ → List ℕ → Writing
migrated_line v n line = with_end (name_of line) (judged_line v place_of_any n line)

abbrev pub then_write : Writing → Writing → Writing
then_write (Err fault) rest = Err fault
then_write (Ok first) (Ok rest) = Ok (first ++ rest)
then_write (Ok first) (Err fault) = Err fault

-- the lines from number n on
abbrev pub migrated_lines : Version → ℕ → Lines → Writing
migrated_lines v n [] = Ok []
migrated_lines v n (line ∷ more) = then_write (migrated_line v n line) (migrated_lines v (suc n) more)

-- all lines but a version line
abbrev pub migrated_behind : Lines → Writing
migrated_behind [] = Ok []
migrated_behind (line ∷ more) = if is_version_line line then migrated_lines Two 2 more else migrated_lines One 1 (line ∷ more)

-- a script in version 2
abbrev pub migrated : (characters : List ℕ) → Writing
migrated characters = then_write (Ok (codes "campl script 2\n")) (migrated_behind (lines_of characters))

-- it may have so many bytes
abbrev pub within : (bytes : List ℕ) → Result (List ℕ) MigrateFault
within bytes = if nat_le (length bytes) SCRIPT_BYTES_MAX then Ok bytes else Err TooLong

-- the bytes of the migrated script, or why there is none
abbrev pub migration : Writing → Result (List ℕ) MigrateFault
migration (Err fault) = Err (Script fault)
migration (Ok characters) = within (encode_utf8_all characters)

-- what is wanted is answered; want of memory alone comes freely
abbrev pub Gives : Result (List ℕ) MigrateFault → Result (List ℕ) MigrateFault → Type 0
Gives wanted result = MatchResult result (λ bytes. wanted ≡ Ok bytes) (λ fault. fault ≢ OutOfMemory → wanted ≡ Err fault)

-- the same of the script with these characters
abbrev pub Migrates : List ℕ → Result (List ℕ) MigrateFault → Type 0
Migrates characters result = Gives (migration (migrated characters)) result
