-- How a script is read. A character is its code: 10 is LF, 32 a space, 58 a colon.
use Rattle.std.specs.Prelude.{◌≡◌, ◌≢◌, ℕ, suc, ◌+◌, ◌<◌, ◌==◌, not, Bool, nat_le, nat_lt, if◌then◌else◌, List, [], ◌∷◌, length, take, drop, map, replicate, Option, Some, None, Result, Ok, Err, MatchResult, IfOk, IfSome, codes, nat_eq}
use Rattle.std.specs.Cmp.Lexicographic.{pointwise}
use Rattle.std.specs.List.{fold, prefix_len}
use Rattle.std.specs.Str.Lines.{strip_carriage_return}
use Rattle.campl_tree.specs.declared.service.ServiceName.{ServiceName}
use Rattle.campl_service.specs.declared.limits.TheConstants.{LINES_MAX, LINE_MAX, VERSION_2_LINES_MAX, VERSION_2_LINE_MAX, TEXT_MAX, NAME_MAX}
use Rattle.campl_service.specs.declared.entry.Version.{Version}
use Rattle.campl_service.specs.declared.entry.Version.TheVariants.{One, Two}
use Rattle.campl_service.specs.declared.entry.Known.{Known}
use Rattle.campl_service.specs.declared.entry.Known.TheVariants.{Heading, AnyName}
use Rattle.campl_service.specs.declared.entry.Entry.{Entry}
use Rattle.campl_service.specs.declared.fault.ScriptFault.{ScriptFault}
use Rattle.campl_service.specs.declared.fault.ScriptFault.TheVariants.{NoColon, UnknownChannel, LineTooLong, TooManyLines, BadEscape, OutOfMemory}
use Rattle.campl_service.specs.Scripts.{Lines, put_behind}
use Rattle.campl_service.specs.Escapes.{unescaped}

-- ---- lines

abbrev pub put_first : ℕ → Lines → Lines
put_first c [] = (c ∷ []) ∷ []
put_first c (piece ∷ more) = (c ∷ piece) ∷ more

-- the pieces that end with LF, and what stands behind the last LF, where something does
abbrev pub pieces : List ℕ → Lines
pieces [] = []
pieces (c ∷ cs) = if c == 10 then [] ∷ pieces cs else put_first c (pieces cs)

-- the lines of a text: its pieces, each without one CR at its end
abbrev pub lines_of : List ℕ → Lines
lines_of characters = map strip_carriage_return (pieces characters)

-- ---- a line

abbrev pub most_lines : Version → ℕ
most_lines One = LINES_MAX
most_lines Two = VERSION_2_LINES_MAX

abbrev pub most_characters : Version → ℕ
most_characters One = LINE_MAX
most_characters Two = VERSION_2_LINE_MAX

abbrev pub same_name : List ℕ → List ℕ → Bool
same_name x y = pointwise nat_eq x y

-- the place of a name in the heading, where it begins with the place n
abbrev pub place_from : ℕ → List ServiceName → List ℕ → Option ℕ
place_from n [] name = None
place_from n (s ∷ ss) name = if same_name s.name name then Some n else place_from (suc n) ss name

abbrev pub place_of : List ServiceName → List ℕ → Option ℕ
place_of = place_from 0

-- where every name that a channel can have is known
abbrev pub place_of_any : List ℕ → Option ℕ
place_of_any name = if nat_le (length name) NAME_MAX then Some 0 else None

-- the place of a name that is known
abbrev pub place_in : Known → List ℕ → Option ℕ
place_in (Heading names) name = place_of names.now name
place_in AnyName name = place_of_any name

-- how many places there are
abbrev pub known_places : Known → ℕ
known_places (Heading names) = length names.now
known_places AnyName = 1

-- one leading space is dropped
abbrev pub without_space : List ℕ → List ℕ
without_space [] = []
without_space (c ∷ cs) = if c == 32 then cs else c ∷ cs

-- what a text stands for, where its escapes are good
abbrev pub text_meant : Version → List ℕ → Option (List ℕ)
text_meant One text = Some text
text_meant Two text = unescaped text

-- what a line says: a text for a channel, or nothing
abbrev pub Said : Type 0
Said = Result (Option Entry) ScriptFault

-- the text after its escapes
abbrev pub judged_text : ℕ → ℕ → Option (List ℕ) → Said
judged_text n channel None = Err (BadEscape n)
judged_text n channel (Some text) = if nat_le (length text) TEXT_MAX then Ok (Some (record { channel = channel; text = text })) else Err (LineTooLong n)

-- the channel whose name stands before the colon, and what stands behind it
abbrev pub judged_channel : Version → ℕ → Option ℕ → List ℕ → Said
judged_channel v n None text = Err (UnknownChannel n)
judged_channel v n (Some channel) text = judged_text n channel (text_meant v (without_space text))

-- how many characters stand before the first colon
abbrev pub colon_at : List ℕ → ℕ
colon_at line = prefix_len (λ c. not (c == 58)) line

-- a line that isn't empty
abbrev pub judged_content : Version → (List ℕ → Option ℕ) → ℕ → List ℕ → Said
judged_content v place n line =
    if nat_lt (colon_at line) (length line) then judged_channel v n (place (take (colon_at line) line)) (drop (colon_at line + 1) line)
    else Err (NoColon n)

-- the line of number n, which is judged in this order: too many lines, too long, no colon, an unknown name, a bad escape, too long after escapes; an empty line says nothing
abbrev pub judged_line : Version → (List ℕ → Option ℕ) → ℕ → List ℕ → Said
judged_line v place n line =
    if nat_lt (most_lines v) n then Err (TooManyLines n)
    else if nat_lt (most_characters v) (length line) then Err (LineTooLong n)
    else if length line == 0 then Ok None
    else judged_content v place n line

-- ---- all lines

abbrev pub Sayings : Type 0
Sayings = Result (List (Option Entry)) ScriptFault

abbrev pub and_then : Said → Sayings → Sayings
and_then (Err fault) rest = Err fault
and_then (Ok said) (Ok more) = Ok (said ∷ more)
and_then (Ok said) (Err fault) = Err fault

-- what the lines from number n on say, or the first fault
abbrev pub judged_lines : Version → (List ℕ → Option ℕ) → ℕ → Lines → Sayings
judged_lines v place n [] = Ok []
judged_lines v place n (line ∷ more) = and_then (judged_line v place n line) (judged_lines v place (suc n) more)

-- the first line of a script of version 2
abbrev pub is_version_line : List ℕ → Bool
is_version_line line = pointwise nat_eq line (codes "campl script 2")

-- the version line carries no text and is counted
abbrev pub judged : (List ℕ → Option ℕ) → Lines → Sayings
judged place [] = Ok []
judged place (line ∷ more) = if is_version_line line then judged_lines Two place 2 more else judged_lines One place 1 (line ∷ more)

-- ---- scripts

-- a text is put behind the others of its channel
abbrev pub with_line : List Lines → Option Entry → List Lines
with_line scripts None = scripts
with_line scripts (Some said) = put_behind said.channel said.text scripts

-- the texts of all lines, in order
abbrev pub with_lines : List Lines → Sayings → Result (List Lines) ScriptFault
with_lines scripts (Ok said) = Ok (fold with_line scripts said)
with_lines scripts (Err fault) = Err fault

-- the scripts of a text, one for each channel, or its first fault
abbrev pub scripts_of : List ServiceName → (characters : List ℕ) → Result (List Lines) ScriptFault
scripts_of names characters = with_lines (replicate (length names) []) (judged (place_of names) (lines_of characters))

-- what is wanted is answered; want of memory alone comes freely
abbrev pub Answers : {A : Type 0} → Result A ScriptFault → Result A ScriptFault → Type 0
Answers wanted result = MatchResult result (λ x. wanted ≡ Ok x) (λ fault. fault ≢ OutOfMemory → wanted ≡ Err fault)

-- the same where what is wanted is put into what was there
abbrev pub Leaves : {A : Type 0} → Result A ScriptFault → Result (Unit {0}) ScriptFault → (after : A) → Type 0
Leaves wanted result after = MatchResult result (λ _. wanted ≡ Ok after) (λ fault. fault ≢ OutOfMemory → wanted ≡ Err fault)

-- a place that is known, if a line says something
abbrev pub IsKnown : Known → Result (Option Entry) ScriptFault → Type 0
IsKnown known result = IfOk result (λ said. IfSome said (λ entry. entry.channel < known_places known))
