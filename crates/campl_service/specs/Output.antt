-- What is printed of a transcript.
use Rattle.std.specs.Prelude.{ℕ, List, [], ◌∷◌, ◌++◌, codes, flat_map}
use Rattle.campl_value.specs.Shown.{shown_bytes}
use Rattle.campl_service.specs.Transcripts.{Record, Took, Sent, Closed, Records}

-- a line feed
abbrev pub end_of_line : List ℕ
end_of_line = 10 ∷ []

abbrev pub record_line : Record → List ℕ
record_line (Took characters) = codes "> " ++ (shown_bytes characters ++ end_of_line)
record_line (Sent characters) = codes "< " ++ (shown_bytes characters ++ end_of_line)
record_line Closed = codes "closed" ++ end_of_line

-- a line for each record
abbrev pub transcript_lines : Records → List ℕ
transcript_lines records = flat_map record_line records
