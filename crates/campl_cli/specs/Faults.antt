-- The faults of a source, and how they are printed.
use Rattle.std.specs.Prelude.{ℕ, List, [], ◌++◌, codes, encode_utf8_all}
use Rattle.std.specs.Fmt.{decimal}
use Rattle.campl_tree.specs.declared.service.Side.{Side}
use Rattle.campl_tree.specs.declared.service.Side.TheVariants.{Input, Output}
use Rattle.campl_cli.specs.declared.fault.FaultKind.{FaultKind}
use Rattle.campl_cli.specs.declared.fault.FaultKind.TheVariants.{Text, Name, Function, Process}
use Rattle.campl_cli.specs.declared.kind.TextKind.{TextKind}
use Rattle.campl_cli.specs.declared.kind.TextKind.TheVariants.{BadCharacter, OpenString, BadEscape, NumberTooLarge, NameTooLong, Tab, BadColumn, TextTooLong, Unexpected, TooDeep}
use Rattle.campl_cli.specs.declared.kind.NameKind.{NameKind}
use Rattle.campl_cli.specs.declared.kind.NameKind.TheVariants.{Twice, Unknown, WrongKind, NoRun, RunNotService, TypeArguments}
use Rattle.campl_cli.specs.declared.kind.FunctionKind.{FunctionKind}
use Rattle.campl_cli.specs.declared.kind.FunctionKind.TheVariants.{TypeDiffers, NeedsType, NotExhaustive, ArgumentCount, NameTwiceInPattern}
use Rattle.campl_cli.specs.declared.kind.ProcessKind.{ProcessKind}
use Rattle.campl_cli.specs.declared.kind.ProcessKind.TheVariants.{NotHeld, LeftOver, WrongAction, PlugUse, PlugCycle, PlugApart, CaseMissing, CaseTwice, RaceForm, IdentityType, CallChannels, PartCount}
use Rattle.campl_cli.specs.declared.fault.Detail.{Detail}
use Rattle.campl_cli.specs.declared.fault.Detail.TheVariants.{Nothing, Named, Counted, Differing, Missing, Channel, HeldSo, Link, Part, Constructor}
use Rattle.campl_cli.specs.declared.fault.SourceFault.{SourceFault}

-- ---- the number and the name of a fault

-- of tokens, layout or the grammar
abbrev pub code_of_text : TextKind → List ℕ
code_of_text BadCharacter = codes "E01 BadCharacter"
code_of_text OpenString = codes "E02 OpenString"
code_of_text BadEscape = codes "E03 BadEscape"
code_of_text NumberTooLarge = codes "E04 NumberTooLarge"
code_of_text NameTooLong = codes "E05 NameTooLong"
code_of_text Tab = codes "E06 Tab"
code_of_text BadColumn = codes "E07 BadColumn"
code_of_text TextTooLong = codes "E08 TextTooLong"
code_of_text Unexpected = codes "E10 Unexpected"
code_of_text TooDeep = codes "E11 TooDeep"

-- of names
abbrev pub code_of_name : NameKind → List ℕ
code_of_name Twice = codes "E20 Twice"
code_of_name Unknown = codes "E21 Unknown"
code_of_name WrongKind = codes "E22 WrongKind"
code_of_name NoRun = codes "E23 NoRun"
code_of_name RunNotService = codes "E24 RunNotService"
code_of_name TypeArguments = codes "E25 TypeArguments"

-- of functions
abbrev pub code_of_function : FunctionKind → List ℕ
code_of_function TypeDiffers = codes "E30 TypeDiffers"
code_of_function NeedsType = codes "E31 NeedsType"
code_of_function NotExhaustive = codes "E32 NotExhaustive"
code_of_function ArgumentCount = codes "E33 ArgumentCount"
code_of_function NameTwiceInPattern = codes "E34 NameTwiceInPattern"

-- of processes
abbrev pub code_of_process : ProcessKind → List ℕ
code_of_process NotHeld = codes "E40 NotHeld"
code_of_process LeftOver = codes "E41 LeftOver"
code_of_process WrongAction = codes "E42 WrongAction"
code_of_process PlugUse = codes "E43 PlugUse"
code_of_process PlugCycle = codes "E44 PlugCycle"
code_of_process PlugApart = codes "E45 PlugApart"
code_of_process CaseMissing = codes "E46 CaseMissing"
code_of_process CaseTwice = codes "E47 CaseTwice"
code_of_process RaceForm = codes "E48 RaceForm"
code_of_process IdentityType = codes "E49 IdentityType"
code_of_process CallChannels = codes "E50 CallChannels"
code_of_process PartCount = codes "E51 PartCount"

abbrev pub code_of : FaultKind → List ℕ
code_of (Text kind) = code_of_text kind
code_of (Name kind) = code_of_name kind
code_of (Function kind) = code_of_function kind
code_of (Process kind) = code_of_process kind

-- ---- its line

abbrev pub word_of_side : Side → List ℕ
word_of_side Input = codes "input"
word_of_side Output = codes "output"

-- what is told beside the place
abbrev pub message_of_detail : Detail → List ℕ
message_of_detail Nothing = []
message_of_detail (Named x) = codes ": name " ++ encode_utf8_all x
message_of_detail (Counted found wanted) = codes ": found " ++ (decimal found ++ (codes ", wanted " ++ decimal wanted))
message_of_detail (Differing found wanted) = codes ": found " ++ (encode_utf8_all found ++ (codes ", wanted " ++ encode_utf8_all wanted))
message_of_detail (Missing patterns) = codes ": missing " ++ encode_utf8_all patterns
message_of_detail (Channel x) = codes ": channel " ++ encode_utf8_all x
message_of_detail (HeldSo x t side) =
    codes ": channel " ++ (encode_utf8_all x ++ (codes " has " ++ (encode_utf8_all t ++ (codes " on the " ++ (word_of_side side ++ codes " side")))))
message_of_detail (Link x) = codes ": link " ++ encode_utf8_all x
message_of_detail (Part p) = codes ": part " ++ decimal p
message_of_detail (Constructor k) = codes ": constructor " ++ encode_utf8_all k

-- a fault as its line tells it: `E02 OpenString at 4:13`, `E21 Unknown at 2:9: name x`
abbrev pub message_of_fault : SourceFault → List ℕ
message_of_fault f = code_of f.kind ++ (codes " at " ++ (decimal f.place.line ++ (codes ":" ++ (decimal f.place.column ++ message_of_detail f.detail))))
