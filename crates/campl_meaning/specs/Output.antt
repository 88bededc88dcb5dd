-- What a run prints.
use Rattle.std.specs.Prelude.{ℕ, suc, Bool, true, false, List, [], ◌∷◌, ◌++◌, Option, Some, None, codes, if◌then◌else◌, encode_utf8_all}
use Rattle.std.specs.Fmt.{decimal}
use Rattle.campl_tree.specs.declared.service.ServiceName.{ServiceName}
use Rattle.campl_machine.specs.Names.{Service}
use Rattle.campl_types.specs.Names.{Name}
use Rattle.campl_types.specs.World.{World}
use Rattle.campl_types.specs.Run.{services_of}
use Rattle.campl_service.specs.declared.phase.Want.{Want}
use Rattle.campl_service.specs.declared.phase.Want.TheVariants as w
use Rattle.campl_service.specs.Services.{want}
use Rattle.campl_service.specs.Transcripts.{Records}
use Rattle.campl_service.specs.Output.{end_of_line, transcript_lines}
use Rattle.campl_meaning.specs.States.{State, Runs, Serves}
use Rattle.campl_meaning.specs.Reductions.{Configuration}
use Rattle.campl_meaning.specs.Ends.{Ending, Finished, Awaiting, OutOfSteps, Broken, transcript_of}

-- a name in UTF-8
abbrev pub spelled : Name → List ℕ
spelled name = encode_utf8_all name

-- the lines of a channel: its name, and one for each record
abbrev pub channel_lines : Name → Records → List ℕ
channel_lines name transcript = codes "channel " ++ (spelled name ++ (end_of_line ++ transcript_lines transcript))

-- the lines of each service from the n-th on, in heading order
abbrev pub all_lines : ℕ → List ServiceName → Configuration → List ℕ
all_lines n [] c = []
all_lines n (x ∷ xs) c = channel_lines x.name (transcript_of n c) ++ all_lines (suc n) xs c

abbrev is_spent : Want → Bool
is_spent w.Pick = false
is_spent w.Text = false
is_spent w.Send = false
is_spent w.Spent = true
is_spent w.Closed = false

abbrev is_asked : Option State → Bool
is_asked None = false
is_asked (Some (Runs r)) = false
is_asked (Some (Serves s)) = is_spent (want s.serving)

-- the names of the services from the n-th on that were asked with their scripts spent
abbrev pub asked_names : ℕ → List ServiceName → Configuration → List Name
asked_names n [] c = []
asked_names n (x ∷ xs) c = if is_asked (c.nodes (Service n)) then x.name ∷ asked_names (suc n) xs c else asked_names (suc n) xs c

abbrev joined_names : List Name → List ℕ
joined_names [] = []
joined_names (x ∷ []) = spelled x
joined_names (x ∷ (y ∷ ys)) = spelled x ++ (codes ", " ++ joined_names (y ∷ ys))

-- how the run ended
abbrev pub ending_words : Ending → (asked : List Name) → List ℕ
ending_words Finished asked = codes "finished"
ending_words Awaiting asked = codes "awaiting " ++ joined_names asked
ending_words OutOfSteps asked = codes "out of steps"
ending_words Broken asked = codes "broken"

-- the last line
abbrev pub last_line : Ending → List Name → (steps : ℕ) → List ℕ
last_line ending asked steps = ending_words ending asked ++ (codes " after " ++ (decimal steps ++ (codes " steps" ++ end_of_line)))

-- the lines of each service channel in heading order, and the last line
abbrev pub output_of : World → Configuration → Ending → (steps : ℕ) → List ℕ
output_of w c ending steps = all_lines 0 (services_of w) c ++ last_line ending (asked_names 0 (services_of w) c) steps
