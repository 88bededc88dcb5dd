-- What reading a text answers. A failed read and want of memory may hide each other answer.
use Rattle.std.specs.Prelude.{◌≡◌, ℕ, ◌<◌, ◌≤◌, ⊤, List, length, Result, Ok, Err}
use Rattle.std.specs.Str.{IsUtf8}
use Rattle.std.specs.Str.Lossy.{utf8_valid_len}
use Rattle.campl_text.specs.Marked.{without_mark}
use Rattle.campl_text.specs.declared.reading.TextFault.{TextFault}
use Rattle.campl_text.specs.declared.reading.TextFault.TheVariants.{ReadFault, TooLong, NotUtf8, OutOfMemory}

-- the answer on contents of which at most `limit` bytes are allowed
abbrev pub IsReading : List ℕ → ℕ → Result (List ℕ) TextFault → Type 0
IsReading contents limit (Ok text) = (length contents ≤ limit) × IsUtf8 contents × (text ≡ without_mark contents)
IsReading contents limit (Err TooLong) = limit < length contents
IsReading contents limit (Err (NotUtf8 at)) = (length contents ≤ limit) × ¬ (IsUtf8 contents) × (at ≡ utf8_valid_len contents)
IsReading contents limit (Err ReadFault) = ⊤
IsReading contents limit (Err OutOfMemory) = ⊤

-- the text of some contents of which at most `limit` bytes are allowed
abbrev pub IsTextWithin : ℕ → List ℕ → Type 0
IsTextWithin limit text = (contents : List ℕ) × IsReading contents limit (Ok text)

-- the answer on contents that are within the limit
abbrev pub IsTextOf : List ℕ → Result (List ℕ) TextFault → Type 0
IsTextOf contents (Ok text) = IsUtf8 contents × (text ≡ without_mark contents)
IsTextOf contents (Err (NotUtf8 at)) = ¬ (IsUtf8 contents) × (at ≡ utf8_valid_len contents)
IsTextOf contents (Err OutOfMemory) = ⊤
IsTextOf contents (Err TooLong) = ⊥
IsTextOf contents (Err ReadFault) = ⊥

-- reading all contents as they are may stop with this fault
abbrev pub MayStop : List ℕ → ℕ → TextFault → Type 0
MayStop contents limit TooLong = limit < length contents
MayStop contents limit ReadFault = ⊤
MayStop contents limit OutOfMemory = ⊤
MayStop contents limit (NotUtf8 at) = ⊥
