-- When two readings of scripts say the same.
use Rattle.std.specs.Prelude.{◌≡◌, ℕ, ◌+◌, Bool, false, if◌then◌else◌, List, [], ◌∷◌, Result, Ok, Err}
use Rattle.campl_service.specs.declared.fault.ScriptFault.{ScriptFault}
use Rattle.campl_service.specs.declared.fault.ScriptFault.TheVariants.{NoColon, UnknownChannel, LineTooLong, TooManyLines, BadEscape, OutOfMemory}
use Rattle.campl_service.specs.Scripts.{Lines}
use Rattle.campl_service.specs.Reading.{lines_of, is_version_line}

abbrev pub begins_with_version : Lines → Bool
begins_with_version [] = false
begins_with_version (line ∷ more) = is_version_line line

-- by how many the numbers of lines grow, where a version line is put before them or stands there already
abbrev pub moved_by : (characters : List ℕ) → ℕ
moved_by characters = if begins_with_version (lines_of characters) then 0 else 1

-- the same, or an unknown channel in a line that stands so many lines later
abbrev pub Same : {A : Type 0} → ℕ → Result A ScriptFault → Result A ScriptFault → Type 0
Same by (Ok x) new = new ≡ Ok x
Same by (Err (UnknownChannel line)) new = new ≡ Err (UnknownChannel (line + by))
Same by (Err (NoColon line)) new = ⊥
Same by (Err (LineTooLong line)) new = ⊥
Same by (Err (TooManyLines line)) new = ⊥
Same by (Err (BadEscape line)) new = ⊥
Same by (Err OutOfMemory) new = ⊥

-- the same of the scripts that are read
abbrev pub SameScripts : ℕ → Result (List Lines) ScriptFault → Result (List Lines) ScriptFault → Type 0
SameScripts by old new = Same by old new
