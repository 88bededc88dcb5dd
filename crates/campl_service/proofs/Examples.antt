-- What the definitions say of small cases. 97 and 98 are the letters a and b.
use Rattle.std.proofs.Common.{◌≡◌, refl, [], ◌∷◌, Some, None}
use Rattle.std.specs.Prelude.{codes}
use Rattle.campl_value.specs.Text.{text_of}
use Rattle.campl_value.specs.declared.message.Message.TheVariants as m
use Rattle.campl_service.specs.declared.phase.ServiceKind.TheVariants.{Console, Terminal}
use Rattle.campl_service.specs.declared.phase.Phase.{Phase}
use Rattle.campl_service.specs.declared.phase.Phase.TheVariants as p
use Rattle.campl_service.specs.declared.phase.Request.TheVariants.{Put, Get}
use Rattle.campl_service.specs.declared.phase.Want.TheVariants as w
use Rattle.campl_service.specs.Scripts.{Lines}
use Rattle.campl_service.specs.Transcripts.{Took, Sent, Closed, Records}
use Rattle.campl_service.specs.Services.{Serving, request, action, want}
use Rattle.campl_service.specs.Output.{transcript_lines}
use Rattle.std.proofs.Common.{Ok, Err, List}
use Rattle.campl_tree.specs.declared.service.ServiceName.{ServiceName}
use Rattle.campl_tree.specs.declared.service.Side.TheVariants.{Input, Output}
use Rattle.campl_service.specs.declared.entry.Version.TheVariants.{One}
use Rattle.campl_service.specs.declared.fault.ScriptFault.TheVariants.{NoColon, UnknownChannel, TooManyLines, BadEscape}
use Rattle.campl_service.specs.Escapes.{unescaped}
use Rattle.campl_service.specs.Reading.{lines_of, scripts_of, judged_line}

abbrev service : Phase → Lines → Records → Serving
service phase script transcript = record { kind = Terminal; phase = phase; script = script; transcript = transcript }

-- the first constructor of a console brings a text, that of a terminal asks for a line
first_of_console : request Console 0 ≡ Some Put
first_of_console = refl

first_of_terminal : request Terminal 0 ≡ Some Get
first_of_terminal = refl

-- the line "a" is sent and written down behind the others, and its script is spent
a_line_is_sent : action (service p.Send ((97 ∷ []) ∷ []) (Took [] ∷ [])) None ≡ Some (service p.Pick [] (Took [] ∷ Sent (97 ∷ []) ∷ []), Some (m.Word (text_of (97 ∷ []))))
a_line_is_sent = refl

-- with a spent script there is no action
nothing_to_send : action (service p.Send [] []) None ≡ None
nothing_to_send = refl

it_stands : want (service p.Send [] []) ≡ w.Spent
it_stands = refl

-- a text is taken
a_text_is_taken : action (service p.Text [] []) (Some (m.Word (text_of (98 ∷ [])))) ≡ Some (service p.Pick [] (Took (98 ∷ []) ∷ []), None)
a_text_is_taken = refl

-- a closed service writes that down, and does nothing more
it_is_closed : action (service p.Pick [] []) (Some (m.Pick 2)) ≡ Some (service p.Closed [] (Closed ∷ []), None)
it_is_closed = refl

nothing_more : action (service p.Closed [] []) (Some (m.Pick 2)) ≡ None
nothing_more = refl

-- what is printed of "a", Tab, "b\" that was taken, and of a line that was sent
printed : transcript_lines (Took (97 ∷ 9 ∷ 98 ∷ 92 ∷ []) ∷ Sent (codes "hi") ∷ Closed ∷ []) ≡ codes "> a\\tb\\\\\n< hi\nclosed\n"
unfolding lib.Utf8.encode
printed = refl

-- ---- reading

abbrev heading : List ServiceName
heading = record { name = codes "a"; side = Input } ∷ record { name = codes "b"; side = Output } ∷ []

-- lines end with LF, and one CR before their end is dropped; nothing behind the last LF is no line
some_lines : lines_of (codes "x\r\n\ny") ≡ codes "x" ∷ [] ∷ codes "y" ∷ []
some_lines = refl

no_last_line : lines_of (codes "x\n") ≡ codes "x" ∷ []
no_last_line = refl

a_return_alone : lines_of (13 ∷ []) ≡ [] ∷ []
a_return_alone = refl

-- the lines of a channel keep their order, and one leading space is dropped
two_channels : scripts_of heading (codes "b:  1\n\na:2\nb: 3:4\n") ≡ Ok ((codes "2" ∷ []) ∷ (codes " 1" ∷ codes "3:4" ∷ []) ∷ [])
two_channels = refl

-- an empty line is counted
no_colon : scripts_of heading (codes "a: 1\n\na\n") ≡ Err (NoColon 3)
no_colon = refl

unknown_channel : scripts_of heading (codes "c: 1") ≡ Err (UnknownChannel 1)
unknown_channel = refl

-- in version 1 a backslash stands for itself
a_backslash : scripts_of heading (codes "a: \\q") ≡ Ok ((codes "\\q" ∷ []) ∷ [] ∷ [])
a_backslash = refl

-- version 2
escapes : scripts_of heading (codes "campl script 2\nb: a\\tb\\\\") ≡ Ok ([] ∷ (codes "a\tb\\" ∷ []) ∷ [])
escapes = refl

bad_escape : scripts_of heading (codes "campl script 2\nb: \\q") ≡ Err (BadEscape 2)
bad_escape = refl

a_number : unescaped (codes "\\u{41}\\n") ≡ Some (65 ∷ 10 ∷ [])
a_number = refl

-- the last line that there may be, and the one behind it
a_last_line : judged_line One (λ name. Some 0) 100000 [] ≡ Ok None
a_last_line = refl

too_many_lines : judged_line One (λ name. Some 0) 100001 [] ≡ Err (TooManyLines 100001)
too_many_lines = refl
