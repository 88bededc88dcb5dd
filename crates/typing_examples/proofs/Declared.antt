-- Worked faults of names.
use Rattle.std.proofs.Common.{◌≡◌, refl, ℕ, zero, suc, List, [], ◌∷◌, Some, None, codes}
use Rattle.campl_tree.specs.declared.place.Ident.{Ident}
use Rattle.campl_tree.specs.declared.process.Binder.TheVariants as binder
use Rattle.campl_tree.specs.declared.service.Side.TheVariants.{Input}
use Rattle.campl_tree.specs.Plain.SeqType as s
use Rattle.campl_tree.specs.Plain.ChanType as c
use Rattle.campl_tree.specs.Plain.Expr as e
use Rattle.campl_tree.specs.Plain.Process as b
use Rattle.campl_tree.specs.Plain.Decl as d
use Rattle.campl_types.specs.declared.fault.NameFault.TheVariants.{Twice, Unknown, WrongKind, TypeArguments, NoRun, RunNotService}
use Rattle.campl_types.specs.WellDeclared.{name_faults, first_fault}
use Rattle.campl_types.specs.Run.{services_of}
use Rattle.campl_types.specs.World.{world_of}
use Rattle.typing_examples.proofs.Sources.{place, ident, named, protocol, data_decl, constructor, protocol_decl, line, process, silent_run}

-- the empty source
no-run : first_fault [] ≡ Some (NoRun (place 1 1))
no-run = refl

-- proc run :: | => where
silent : name_faults (silent_run 1 ∷ []) ≡ []
silent = refl

-- data Console where
--     Only
-- hides nothing: the prelude declares the name
console-again : first_fault (data_decl 1 (ident 1 6 (codes "Console")) [] (constructor (ident 2 5 (codes "Only")) [] ∷ []) ∷ silent_run 3 ∷ []) ≡ Some (Twice (place 1 6) (codes "Console"))
console-again = refl

-- data Pair(a, a) where
--     Both(b)
-- has two faults, of which that of the heading comes first
parameter-twice : name_faults (data_decl 1 (ident 1 6 (codes "Pair")) (ident 1 11 (codes "a") ∷ ident 1 14 (codes "a") ∷ []) (constructor (ident 2 5 (codes "Both")) (s.Variable (place 2 10) (codes "b") ∷ []) ∷ []) ∷ silent_run 3 ∷ []) ≡ Twice (place 1 14) (codes "a") ∷ Unknown (place 2 10) (codes "b") ∷ []
parameter-twice = refl

-- data One(a) where
--     One(a)
-- data Two where
--     Two(One)
too-few : first_fault (data_decl 1 (ident 1 6 (codes "One")) (ident 1 10 (codes "a") ∷ []) (constructor (ident 2 5 (codes "One")) (s.Variable (place 2 9) (codes "a") ∷ []) ∷ []) ∷ data_decl 3 (ident 3 6 (codes "Two")) [] (constructor (ident 4 5 (codes "Two")) (named 4 9 (codes "One") ∷ []) ∷ []) ∷ silent_run 5 ∷ []) ≡ Some (TypeArguments (place 4 9) 0 1)
too-few = refl

-- protocol P => S where
--     More :: Put(S | S) => S
-- takes its own name for a sequential type
own-name-in-a-value : first_fault (protocol_decl 1 (ident 1 10 (codes "P")) [] (ident 1 15 (codes "S")) (line (ident 2 5 (codes "More")) (c.Put (named 2 17 (codes "S")) (protocol 2 21 (codes "S"))) (ident 2 27 (codes "S")) ∷ []) ∷ silent_run 3 ∷ []) ≡ Some (WrongKind (place 2 17) (codes "S"))
own-name-in-a-value = refl

-- protocol P => S where
--     More :: S => T
-- ends its line with another name than its heading's
other-name : first_fault (protocol_decl 1 (ident 1 10 (codes "P")) [] (ident 1 15 (codes "S")) (line (ident 2 5 (codes "More")) (protocol 2 13 (codes "S")) (ident 2 18 (codes "T")) ∷ []) ∷ silent_run 3 ∷ []) ≡ Some (WrongKind (place 2 18) (codes "T"))
other-name = refl

-- put x on console, where x is bound by the `get` before it, or isn't
abbrev speaks : b.Body → d.Decl
speaks body = process 1 (codes "run") (protocol 1 15 (codes "Console") ∷ []) (ident 2 7 (codes "console") ∷ []) body

abbrev say-x : b.Body
say-x = b.Then (b.Put (place 4 9) (e.Variable (place 4 13) (codes "x")) (ident 4 18 (codes "console"))) (b.Halt (place 5 9) None)

bound-by-get : name_faults (speaks (b.Then (b.Get (place 3 9) (binder.Variable (place 3 13) (codes "x")) (ident 3 18 (codes "console"))) say-x) ∷ []) ≡ []
bound-by-get = refl

not-bound : first_fault (speaks say-x ∷ []) ≡ Some (Unknown (place 4 13) (codes "x"))
not-bound = refl

-- the process itself called as a function
wrong-kind : first_fault (speaks (b.Then (b.Put (place 3 9) (e.Call (place 3 13) (codes "run") e.no_exprs) (ident 3 22 (codes "console"))) (b.Halt (place 4 9) None)) ∷ []) ≡ Some (WrongKind (place 3 13) (codes "run"))
wrong-kind = refl

-- a terminal is no input
terminal-as-input : first_fault (process 1 (codes "run") (protocol 1 15 (codes "StringTerminal") ∷ []) (ident 2 7 (codes "t") ∷ []) (b.Halt (place 2 14) None) ∷ []) ≡ Some (RunNotService (place 1 6))
terminal-as-input = refl

one-service : services_of (world_of (speaks (b.Halt (place 3 9) None) ∷ [])) ≡ record { name = codes "console"; side = Input } ∷ []
one-service = refl

-- the orders of judging

-- data A where
--     Same
-- protocol P => S where
--     Same :: TopBot => S
-- declares one constructor in two kinds of declarations
across-kinds : first_fault (data_decl 1 (ident 1 6 (codes "A")) [] (constructor (ident 2 5 (codes "Same")) [] ∷ []) ∷ protocol_decl 3 (ident 3 10 (codes "P")) [] (ident 3 15 (codes "S")) (line (ident 4 5 (codes "Same")) c.TopBot (ident 4 23 (codes "S")) ∷ []) ∷ silent_run 5 ∷ []) ≡ Some (Twice (place 4 5) (codes "Same"))
across-kinds = refl

-- a name that is declared again comes before one that isn't known, wherever they stand
twice-first : first_fault (data_decl 1 (ident 1 6 (codes "A")) [] (constructor (ident 2 5 (codes "Of")) (named 2 8 (codes "Unknown") ∷ []) ∷ []) ∷ data_decl 3 (ident 3 6 (codes "A")) [] (constructor (ident 4 5 (codes "Other")) [] ∷ []) ∷ silent_run 5 ∷ []) ≡ Some (Twice (place 3 6) (codes "A"))
twice-first = refl

-- an unknown name comes before there being no process `run`
unknown-before-run : name_faults (data_decl 1 (ident 1 6 (codes "A")) [] (constructor (ident 2 5 (codes "Of")) (named 2 8 (codes "Unknown") ∷ []) ∷ []) ∷ []) ≡ Unknown (place 2 8) (codes "Unknown") ∷ NoRun (place 1 1) ∷ []
unknown-before-run = refl

-- a constructor of a data type is no choice of a protocol, and `Other` is known nowhere
abbrev hputs : Ident → d.Decl
hputs k = process 3 (codes "run") (protocol 3 15 (codes "Console") ∷ []) (ident 4 7 (codes "console") ∷ []) (b.Then (b.Hput (place 5 9) k (ident 5 22 (codes "console"))) (b.Halt (place 6 9) None))

no-choice : first_fault (data_decl 1 (ident 1 6 (codes "A")) [] (constructor (ident 2 5 (codes "Of")) [] ∷ []) ∷ hputs (ident 5 14 (codes "Of")) ∷ []) ≡ Some (WrongKind (place 5 14) (codes "Of"))
no-choice = refl

unknown-choice : first_fault (hputs (ident 5 14 (codes "Other")) ∷ []) ≡ Some (Unknown (place 5 14) (codes "Other"))
unknown-choice = refl

-- a link's type without the argument of its protocol
link-without-argument : first_fault (protocol_decl 1 (ident 1 10 (codes "Box")) (ident 1 14 (codes "a") ∷ []) (ident 1 20 (codes "S")) (line (ident 2 5 (codes "Give")) c.TopBot (ident 2 23 (codes "S")) ∷ []) ∷ process 3 (codes "run") [] [] (b.Plug (place 4 12) (record { name = ident 4 17 (codes "c"); channel_type = protocol 4 22 (codes "Box") } ∷ []) b.no_parts) ∷ []) ≡ Some (TypeArguments (place 4 22) 0 1)
link-without-argument = refl

-- a type variable stands in no process
variable-in-a-process : first_fault (process 1 (codes "run") (c.Put (s.Variable (place 1 19) (codes "a")) c.TopBot ∷ []) (ident 2 7 (codes "x") ∷ []) (b.Halt (place 2 12) None) ∷ []) ≡ Some (Unknown (place 1 19) (codes "a"))
variable-in-a-process = refl

-- 17 consoles are too many
abbrev consoles : ℕ → List c.ChanType
consoles zero = []
consoles (suc n) = protocol 1 15 (codes "Console") ∷ consoles n

sixteen : name_faults (process 1 (codes "run") (consoles 16) [] (b.Halt (place 2 9) None) ∷ []) ≡ []
sixteen = refl

seventeen : first_fault (process 1 (codes "run") (consoles 17) [] (b.Halt (place 2 9) None) ∷ []) ≡ Some (RunNotService (place 1 6))
seventeen = refl
