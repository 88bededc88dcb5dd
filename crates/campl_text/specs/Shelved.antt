-- A shelf over memory.
use Rattle.std.specs.Prelude.{◌≡◌, ◌≢◌, ℕ, ◌+◌, ◌-◌, ◌^◌, List, Bool, Option, Some, min, find, Contains}
use Rattle.std.specs.Option.{option_map, option_map_or}
use Rattle.std.specs.Str.{bytes_eq}
use Rattle.campl_text.specs.Counts.{one_more}

-- a file: its name, its bytes, and how many reads had missed the name before the file came
pub record Held : Type 0 where
  pub name : List ℕ
  pub bytes : List ℕ
  pub missed : ℕ

-- the files, no two of one name; which reads are to fail, counted from 1; how many reads there were;
-- how many failed by their number; and how many others failed, since no file had the name
pub record Shelved : Type 0 where
  pub files : List Held
  pub failing : List ℕ
  pub reads : ℕ
  pub numbered : ℕ
  pub missing : ℕ

abbrev pub is_named : List ℕ → Held → Bool
is_named name file = bytes_eq file.name name

-- the file of a name
abbrev pub file_of : Shelved → List ℕ → Option Held
file_of shelf name = find (is_named name) shelf.files

-- the bytes under a name
abbrev pub bytes_of : Shelved → List ℕ → Option (List ℕ)
bytes_of shelf name = option_map (λ file. file.bytes) (file_of shelf name)

-- how many reads missed the name, whichever they read
abbrev pub missed_of : Shelved → List ℕ → ℕ
missed_of shelf name = option_map_or (λ file. file.missed) (file_of shelf name) shelf.missing

-- the faults of a name
abbrev pub faults_of : Shelved → List ℕ → ℕ
faults_of shelf name = min (shelf.numbered + missed_of shelf name) (2 ^ 64 - 1)

-- the next read is one that is to fail
abbrev pub FailsNext : Shelved → Type 0
FailsNext shelf = Contains shelf.failing (one_more shelf.reads)

-- the name holds the bytes now, and nothing else changed
pub record Puts (old new : Shelved) (name bytes : List ℕ) : Type 0 where
  pub held : bytes_of new name ≡ Some bytes
  pub others : (other : List ℕ) → other ≢ name → bytes_of new other ≡ bytes_of old other
  pub missed : (other : List ℕ) → missed_of new other ≡ missed_of old other
  pub rest : new ≡ record old { files = new.files }
