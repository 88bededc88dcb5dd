-- What a source is: its tokens, their layout, the tree of its terminals, names that are well declared, and functions
-- and processes that are typed; or its first fault.
use Rattle.std.specs.Prelude.{◌≡◌, ◌⊎◌, Option, Some, None, ℕ, List, ◌∷◌, Ok, Err, chars, ⊤}
use Rattle.campl_tree.specs.declared.place.Place.{Place}
use Rattle.campl_tree.specs.declared.decl.Program.{Program}
use Rattle.campl_lex.specs.declared.token.Token.{Token}
use Rattle.campl_lex.specs.declared.fault.LexFault.{LexFault}
use Rattle.campl_lex.specs.declared.fault.LexFault.TheVariants as lexing
use Rattle.campl_lex.specs.Spot.{first_spot, first_place, place_past}
use Rattle.campl_lex.specs.Tokens.{Lexes}
use Rattle.campl_lex.specs.Layout.{laid_out}
use Rattle.campl_gram.specs.Verdicts.{Stops, Sinks}
use Rattle.campl_grammar.specs.Terminal.{Terminal}
use Rattle.campl_grammar.specs.Rules.{IsProgram, limit}
use Rattle.campl_terminals.specs.Terminals.{terminals_of}
use Rattle.campl_parse.specs.Parsing as parsing
use Rattle.campl_cli.specs.declared.fault.SourceFault.{SourceFault}
use Rattle.campl_cli.specs.declared.refusal.Refusal.{Refusal}
use Rattle.campl_cli.specs.declared.refusal.Refusal.TheVariants.{BadCommandLine, ReadFault, TooLong, NotUtf8, Source, Script, OutOfMemory}
use Rattle.campl_cli.specs.declared.source.TreeFault.{TreeFault}
use Rattle.campl_cli.specs.declared.source.TreeFault.TheVariants as tree
use Rattle.campl_cli.specs.declared.fault.FaultKind.TheVariants.{Text, Name, Function, Process}
use Rattle.campl_cli.specs.declared.kind.TextKind.{TextKind}
use Rattle.campl_cli.specs.declared.kind.TextKind.TheVariants.{BadCharacter, OpenString, BadEscape, NumberTooLarge, NameTooLong, Tab, BadColumn, TextTooLong, Unexpected, TooDeep}
use Rattle.campl_cli.specs.declared.kind.NameKind.TheVariants.{Twice, Unknown, WrongKind, NoRun, RunNotService, TypeArguments}
use Rattle.campl_cli.specs.declared.kind.FunctionKind.TheVariants.{TypeDiffers, NeedsType, NotExhaustive, ArgumentCount, NameTwiceInPattern}
use Rattle.campl_cli.specs.declared.kind.ProcessKind.{ProcessKind}
use Rattle.campl_cli.specs.declared.kind.ProcessKind.TheVariants.{NotHeld, LeftOver, WrongAction, PlugUse, PlugCycle, PlugApart, CaseMissing, CaseTwice, RaceForm, IdentityType, CallChannels, PartCount}
use Rattle.campl_cli.specs.declared.fault.Detail.{Detail}
use Rattle.campl_cli.specs.declared.fault.Detail.TheVariants.{Nothing, Named, Counted, Differing, Missing, Channel, HeldSo, Link, Part, Constructor}
use Rattle.campl_tree.specs.View.{view_program}
use Rattle.campl_tree.specs.Plain.Decl as d
use Rattle.campl_types.specs.declared.fault.NameFault.{NameFault}
use Rattle.campl_types.specs.declared.fault.NameFault.TheVariants as naming
use Rattle.campl_types.specs.Sequential.{FunctionsAreTyped}
use Rattle.campl_types.specs.WellDeclared.{name_faults, IsWellDeclared}
use Rattle.campl_types.specs.World.{World, world_of}
use Rattle.campl_types.specs.Run.{services_of}
use Rattle.campl_tree.specs.declared.service.ServiceName.{ServiceName}
use Rattle.campl_seqcheck.specs.declared.fault.SeqFault.{SeqFault}
use Rattle.campl_seqcheck.specs.declared.fault.SeqFault.TheVariants as typing
use Rattle.campl_seqcheck.specs.Functions.{judge_functions}
use Rattle.campl_seqcheck.specs.Judged.{Fails}
use Rattle.campl_shown.specs.Types.{chan_text}
use Rattle.campl_linear.specs.Faults.{LinFault}
use Rattle.campl_linear.specs.Faults as linear
use Rattle.campl_linear.specs.Processes.{judge_processes}
use Rattle.campl_meaning.specs.Lawful.{IsAccepted}
use Rattle.campl_types.specs.Names as n

-- the text has these tokens
abbrev pub HasTokens : List ℕ → List Token → Type 0
HasTokens text tokens = Lexes first_spot (chars text) (Ok tokens)

-- the place behind a text
abbrev pub end_of : List ℕ → Place
end_of text = place_past first_place (chars text)

-- the text has tokens, which layout lays out so
abbrev pub HasLayout : List ℕ → List Token → Type 0
HasLayout text laid = (tokens : List Token) × HasTokens text tokens × (laid_out text (end_of text) tokens ≡ Ok laid)

-- the text has a layout whose terminals, nested no deeper than the limit, are a program with this tree
abbrev pub HasTree : List ℕ → Program → Type 0
HasTree text program = (laid : List Token) × HasLayout text laid × parsing.HasTree (terminals_of text laid) program

-- the text has a layout, and a fault stands at a terminal of it
abbrev pub HasNoTree : List ℕ → (List Terminal → List Terminal → Type 0) → Place → Type 0
HasNoTree text is at = (laid : List Token) × HasLayout text laid × parsing.StandsAt is (terminals_of text laid) at

-- the text's first fault of tokens, of layout or of the grammar
abbrev pub IsTextFault : List ℕ → TextKind → Place → Type 0
IsTextFault text BadCharacter at = Lexes first_spot (chars text) (Err (lexing.BadCharacter at))
IsTextFault text OpenString at = Lexes first_spot (chars text) (Err (lexing.OpenString at))
IsTextFault text BadEscape at = Lexes first_spot (chars text) (Err (lexing.BadEscape at))
IsTextFault text NumberTooLarge at = Lexes first_spot (chars text) (Err (lexing.NumberTooLarge at))
IsTextFault text NameTooLong at = Lexes first_spot (chars text) (Err (lexing.NameTooLong at))
IsTextFault text Tab at = Lexes first_spot (chars text) (Err (lexing.Tab at))
IsTextFault text TextTooLong at = Lexes first_spot (chars text) (Err (lexing.TextTooLong at))
IsTextFault text BadColumn at = (tokens : List Token) × HasTokens text tokens × (laid_out text (end_of text) tokens ≡ Err (lexing.BadColumn at))
IsTextFault text Unexpected at = HasNoTree text (Stops limit IsProgram) at
IsTextFault text TooDeep at = HasNoTree text (Sinks limit IsProgram) at

-- the text is accepted: it has a tree whose names are well declared, whose functions and processes are typed, and in
-- which the parts of each plug are a tree
abbrev pub IsAcceptedAs : List ℕ → Program → Type 0
IsAcceptedAs text program = HasTree text program × IsAccepted (view_program program)

abbrev pub IsAcceptedText : List ℕ → Type 0
IsAcceptedText text = (program : Program) × IsAcceptedAs text program

-- it is the world of an accepted source
abbrev pub IsAcceptedWorld : World → Type 0
IsAcceptedWorld world = (source : d.Program) × IsAccepted source × (world ≡ world_of source)

-- the text is accepted, and this is its world
abbrev pub IsWorldOf : List ℕ → World → Type 0
IsWorldOf text world = (program : Program) × IsAcceptedAs text program × (world ≡ world_of (view_program program))

-- the services that a program names, in the order of its heading
abbrev pub heading_of : Program → List ServiceName
heading_of program = services_of (world_of (view_program program))

-- how a fault of names is told
abbrev pub told_of_names : NameFault → Option SourceFault
told_of_names (naming.Twice at x) = Some (record { kind = Name Twice; place = at; detail = Named x })
told_of_names (naming.Unknown at x) = Some (record { kind = Name Unknown; place = at; detail = Named x })
told_of_names (naming.WrongKind at x) = Some (record { kind = Name WrongKind; place = at; detail = Named x })
told_of_names (naming.TypeArguments at found wanted) = Some (record { kind = Name TypeArguments; place = at; detail = Counted found wanted })
told_of_names (naming.NoRun at) = Some (record { kind = Name NoRun; place = at; detail = Nothing })
told_of_names (naming.RunNotService at) = Some (record { kind = Name RunNotService; place = at; detail = Nothing })
told_of_names naming.OutOfMemory = None

-- a program's first fault of names, as it is told
abbrev pub IsToldOfNames : d.Program → SourceFault → Type 0
IsToldOfNames program f = (fault : NameFault) × ((more : List NameFault) × (name_faults program ≡ fault ∷ more)) × (told_of_names fault ≡ Some f)

-- how a fault of functions is told
abbrev pub told_of_functions : SeqFault → Option SourceFault
told_of_functions (typing.TypeDiffers at found wanted) = Some (record { kind = Function TypeDiffers; place = at; detail = Differing found wanted })
told_of_functions (typing.NeedsType at) = Some (record { kind = Function NeedsType; place = at; detail = Nothing })
told_of_functions (typing.NotExhaustive at patterns) = Some (record { kind = Function NotExhaustive; place = at; detail = Missing patterns })
told_of_functions (typing.ArgumentCount at found wanted) = Some (record { kind = Function ArgumentCount; place = at; detail = Counted found wanted })
told_of_functions (typing.NameTwiceInPattern at x) = Some (record { kind = Function NameTwiceInPattern; place = at; detail = Named x })
told_of_functions typing.OutOfMemory = None

-- the first fault of the functions of a well declared program, as it is told
abbrev pub IsToldOfFunctions : d.Program → SourceFault → Type 0
IsToldOfFunctions program f =
    IsWellDeclared program × ((fault : SeqFault) × (judge_functions (world_of program) program ≡ Fails fault) × (told_of_functions fault ≡ Some f))

-- the channel that is named, if one is
abbrev pub channel_if_named : Option n.Name → Detail
channel_if_named (Some x) = Channel x
channel_if_named None = Nothing

-- how a fault of processes is told
abbrev pub told_of_processes : LinFault → Option SourceFault
told_of_processes (linear.Seq fault) = told_of_functions fault
told_of_processes (linear.NotHeld at x) = Some (record { kind = Process NotHeld; place = at; detail = Channel x })
told_of_processes (linear.LeftOver at x) = Some (record { kind = Process LeftOver; place = at; detail = Channel x })
told_of_processes (linear.WrongAction at x t side) = Some (record { kind = Process WrongAction; place = at; detail = HeldSo x (chan_text t) side })
told_of_processes (linear.PlugUse at x) = Some (record { kind = Process PlugUse; place = at; detail = Channel x })
told_of_processes (linear.PlugCycle at x) = Some (record { kind = Process PlugCycle; place = at; detail = Link x })
told_of_processes (linear.PlugApart at p) = Some (record { kind = Process PlugApart; place = at; detail = Part p })
told_of_processes (linear.CaseMissing at k) = Some (record { kind = Process CaseMissing; place = at; detail = Constructor k })
told_of_processes (linear.CaseTwice at k) = Some (record { kind = Process CaseTwice; place = at; detail = Constructor k })
told_of_processes (linear.RaceForm at) = Some (record { kind = Process RaceForm; place = at; detail = Nothing })
told_of_processes (linear.IdentityType at) = Some (record { kind = Process IdentityType; place = at; detail = Nothing })
told_of_processes (linear.CallChannels at x) = Some (record { kind = Process CallChannels; place = at; detail = channel_if_named x })
told_of_processes (linear.PartCount at) = Some (record { kind = Process PartCount; place = at; detail = Nothing })
told_of_processes linear.OutOfMemory = None

-- the first fault of the processes of a program whose names and functions have none, as it is told
abbrev pub IsToldOfProcesses : d.Program → SourceFault → Type 0
IsToldOfProcesses program f =
    IsWellDeclared program × FunctionsAreTyped (world_of program) program
    × ((fault : LinFault) × (judge_processes (world_of program) program ≡ Fails fault) × (told_of_processes fault ≡ Some f))

-- a tree's first fault: the first of its names, or else of its functions, or else of its processes
abbrev pub IsToldOfTree : d.Program → SourceFault → Type 0
IsToldOfTree program f = IsToldOfNames program f ⊎ (IsToldOfFunctions program f ⊎ IsToldOfProcesses program f)

-- the text's first fault of tokens, of layout or of the grammar, as it is told: with no detail
abbrev pub IsToldOfText : List ℕ → SourceFault → Type 0
IsToldOfText text f =
    (kind : TextKind) × (f ≡ record { kind = Text kind; place = f.place; detail = Nothing }) × IsTextFault text kind f.place

-- the text's first fault: that, or where it has a tree, the tree's
abbrev pub IsSourceFault : List ℕ → SourceFault → Type 0
IsSourceFault text f = IsToldOfText text f ⊎ ((program : Program) × HasTree text program × IsToldOfTree (view_program program) f)

-- a fault of tokens or of layout, as one of the tree
abbrev pub tree_fault_of : LexFault → TreeFault
tree_fault_of (lexing.BadCharacter at) = tree.Wrong BadCharacter at
tree_fault_of (lexing.OpenString at) = tree.Wrong OpenString at
tree_fault_of (lexing.BadEscape at) = tree.Wrong BadEscape at
tree_fault_of (lexing.NumberTooLarge at) = tree.Wrong NumberTooLarge at
tree_fault_of (lexing.NameTooLong at) = tree.Wrong NameTooLong at
tree_fault_of (lexing.Tab at) = tree.Wrong Tab at
tree_fault_of (lexing.BadColumn at) = tree.Wrong BadColumn at
tree_fault_of (lexing.TextTooLong at) = tree.Wrong TextTooLong at
tree_fault_of lexing.OutOfMemory = tree.OutOfMemory

-- a text without a tree is refused for its first fault of tokens, layout or grammar; want of memory alone comes freely
abbrev pub IsTreeRefusal : List ℕ → TreeFault → Type 0
IsTreeRefusal text (tree.Wrong kind at) = IsTextFault text kind at
IsTreeRefusal text tree.OutOfMemory = ⊤

-- the refusal of a text without a tree
abbrev pub refusal_of_text : TreeFault → Refusal
refusal_of_text (tree.Wrong kind at) = Source (record { kind = Text kind; place = at; detail = Nothing })
refusal_of_text tree.OutOfMemory = OutOfMemory

-- a fault is told, or else memory ran out
abbrev pub refused_for : Option SourceFault → Refusal
refused_for (Some f) = Source f
refused_for None = OutOfMemory

-- the refusal for a fault of names
abbrev pub refusal_of_naming : NameFault → Refusal
refusal_of_naming fault = refused_for (told_of_names fault)

-- the refusal for a fault of functions
abbrev pub refusal_of_typing : SeqFault → Refusal
refusal_of_typing fault = refused_for (told_of_functions fault)

-- the refusal for a fault of processes
abbrev pub refusal_of_processes : LinFault → Refusal
refusal_of_processes fault = refused_for (told_of_processes fault)

-- the refusal for processes that are wrong so
abbrev pub refused_as : ProcessKind → Place → Detail → Refusal
refused_as kind at detail = Source (record { kind = Process kind; place = at; detail = detail })

-- a refusal is this, or memory ran out
abbrev pub IsOrStarves : (told refusal : Refusal) → Type 0
IsOrStarves told refusal = (refusal ≡ told) ⊎ (refusal ≡ OutOfMemory)

-- something is refused for a fault that is told so; want of memory alone comes freely
abbrev pub IsRefusedFor : (SourceFault → Type 0) → Refusal → Type 0
IsRefusedFor told (Source f) = told f
IsRefusedFor told OutOfMemory = ⊤
IsRefusedFor told BadCommandLine = ⊥
IsRefusedFor told TooLong = ⊥
IsRefusedFor told (NotUtf8 at) = ⊥
IsRefusedFor told (Script why) = ⊥
IsRefusedFor told ReadFault = ⊥
