-- What is found by a name, what patterns bind, and when types are the same or have variables.
use Rattle.std.proofs.Common.{◌≡◌, refl, pos, List, [], ◌∷◌, Some, None, true, false, is_some, option_map, codes}
use Rattle.campl_tree.specs.declared.place.Ident.{Ident}
use Rattle.campl_tree.specs.declared.process.Binder.{Binder}
use Rattle.campl_tree.specs.declared.process.Binder.TheVariants as binder
use Rattle.campl_tree.specs.declared.service.Side.TheVariants.{Input, Output}
use Rattle.campl_tree.specs.Plain.SeqType as s
use Rattle.campl_tree.specs.Plain.ChanType.{Put, Get, Tensor, Par, TopBot, Neg, Named}
use Rattle.campl_tree.specs.Plain.Pattern as p
use Rattle.campl_tree.specs.Plain.Expr as e
use Rattle.campl_tree.specs.Plain.Process as b
use Rattle.campl_types.specs.declared.act.Act.TheVariants as act
use Rattle.campl_types.specs.Names.{Name, found, once}
use Rattle.campl_types.specs.Substitution.{filling, filled, variables_of}
use Rattle.campl_types.specs.SameType.{IsSame, IsSameChan}
use Rattle.campl_types.specs.Patterns.{bound_in, bound_by_all}
use Rattle.campl_types.specs.World.{World, world_of, type_named, data_named, constructor_named, number_in, lower_named, function_named, process_named}
use Rattle.campl_types.specs.Polarity.{allowed}
use Rattle.campl_types.specs.Held.{is_closed}
use Rattle.campl_types.specs.Linear.{receives_on, row_variables}
use Rattle.typing_examples.proofs.Sources.{place, ident, named, protocol, data_decl, constructor, silent_run}

-- Names

-- the first of one name
first-found : found (codes "x") ((codes "y", s.Int) ∷ (codes "x", s.Char) ∷ (codes "x", s.Bool) ∷ []) ≡ Some s.Char
first-found = refl

each-once : once (codes "a" ∷ codes "b" ∷ codes "a" ∷ []) ≡ codes "a" ∷ codes "b" ∷ []
each-once = refl

-- data Maybe(a) where
--     None
--     Just(a)
-- proc run :: | => where
--     | => -> halt
abbrev w : World
w = world_of (data_decl 1 (ident 1 6 (codes "Maybe")) (ident 1 12 (codes "a") ∷ []) (constructor (ident 2 5 (codes "None")) [] ∷ constructor (ident 3 5 (codes "Just")) (s.Variable (place 3 10) (codes "a") ∷ []) ∷ []) ∷ silent_run 4 ∷ [])

-- constructors are numbered by their lines, those of the prelude too
second-line : option_map number_in (constructor_named w (codes "Just")) ≡ Some 1
second-line = refl

third-line : option_map number_in (constructor_named w (codes "ConsoleClose")) ≡ Some 2
third-line = refl

-- types and constructors are found in their own spaces
own-spaces : (type_named w (codes "Just") ≡ None) × (constructor_named w (codes "Maybe") ≡ None) × (lower_named w (codes "Maybe") ≡ None)
own-spaces = (refl, refl, refl)

-- a protocol is no data type, and a process no function
protocol-as-data : data_named w (codes "StringTerminal") ≡ None
protocol-as-data = refl

process-as-function : (function_named w (codes "run") ≡ None) × (is_some (process_named w (codes "run")) ≡ true)
process-as-function = (refl, refl)

-- Patterns

abbrev variable : Name → p.Pattern
variable = p.Variable (place 1 1)

-- Just((x, [y, _])) : x, from left to right
bound : bound_in (p.Cons (place 1 1) (p.Constructor (place 1 1) (codes "Just") (p.pattern_then (p.Pair (place 1 6) (variable (codes "x")) (p.List (place 1 10) (p.pattern_then (variable (codes "y")) (p.pattern_then (p.Wildcard (place 1 14)) p.no_patterns)))) p.no_patterns)) (variable (codes "x"))) ≡ codes "x" ∷ codes "y" ∷ codes "x" ∷ []
bound = refl

literals-bind-nothing : bound_in (p.Pair (place 1 1) (p.Pair (place 1 2) (p.Number (place 1 3) (pos 1)) (p.Negative (place 1 6) (pos 1))) (p.Pair (place 1 10) (p.Pair (place 1 11) (p.Character (place 1 12) 97) (p.Text (place 1 17) (codes "x"))) (p.Pair (place 1 23) (p.True (place 1 24)) (p.False (place 1 30))))) ≡ []
literals-bind-nothing = refl

-- n, _, m of a process's row, at Int, Char and Bool: the newest first
abbrev binders : List Binder
binders = binder.Variable (place 1 1) (codes "n") ∷ binder.Wildcard (place 1 4) ∷ binder.Variable (place 1 7) (codes "m") ∷ []

row-binds : (bound_by_all binders ≡ codes "n" ∷ codes "m" ∷ []) × (row_variables binders (s.Int ∷ s.Char ∷ s.Bool ∷ []) ≡ (codes "m", s.Bool) ∷ (codes "n", s.Int) ∷ [])
row-binds = (refl, refl)

-- Types

abbrev a : s.SeqType
a = s.Variable (place 1 1) (codes "a")

-- Maybe((a, [b])) has these variables
variables : variables_of (s.Named (place 1 1) (codes "Maybe") (s.type_then (s.Pair a (s.List (s.Variable (place 1 11) (codes "b")))) s.no_types)) ≡ codes "a" ∷ codes "b" ∷ []
variables = refl

-- a parameter without an argument stands for nothing, and basic types have none
no-argument : (filling (codes "a" ∷ codes "b" ∷ []) (s.Int ∷ []) ≡ (codes "a", s.Int) ∷ []) × (filled ((codes "a", s.Int) ∷ []) (s.Pair s.Bool s.Char) ≡ s.Pair s.Bool s.Char)
no-argument = (refl, refl)

-- one type at two places, and types of other names, arguments or forms
elsewhere : IsSameChan (Tensor (Put (named 1 1 (codes "Shape")) TopBot) (Neg (protocol 1 9 (codes "Console")))) (Tensor (Put (named 2 5 (codes "Shape")) TopBot) (Neg (protocol 2 9 (codes "Console"))))
elsewhere = refl

other-name : IsSame (named 1 1 (codes "Shape")) (named 1 1 (codes "Colour")) → ⊥
other-name h = cc h

other-argument : IsSame (s.List s.Int) (s.List a) → ⊥
other-argument h = cc h

other-form : IsSameChan (Put s.Int TopBot) (Get s.Int TopBot) → ⊥
other-form h = cc h

other-order : IsSameChan (Par TopBot (Neg TopBot)) (Par (Neg TopBot) TopBot) → ⊥
other-order h = cc h

-- whether no variable stands in a type
closed : (is_closed (Tensor (Get s.Int (protocol 1 1 (codes "Console"))) (Par TopBot (Neg TopBot))) ≡ true) × (is_closed (Neg (Put (s.List a) TopBot)) ≡ false) × (is_closed (Named (place 1 1) (codes "Box") (s.type_then a s.no_types)) ≡ false)
closed = (refl, refl, refl)

-- the table's entries
acts : (allowed w (Put s.Int TopBot) Output ≡ act.Put) × (allowed w (Put s.Int TopBot) Input ≡ act.Get) × (allowed w (Tensor TopBot TopBot) Output ≡ act.Fork) × (allowed w (Tensor TopBot TopBot) Input ≡ act.Split)
acts = (refl, refl, refl, refl)

-- Receipts

abbrev c : Ident
c = ident 1 1 (codes "c")

abbrev end : b.Body
end = b.Halt (place 9 9) None

-- `get`, `split` and `hcase` receive, and nothing else does
receipts : (receives_on (codes "c") (b.Then (b.Get (place 1 1) (binder.Wildcard (place 1 5)) c) end) ≡ true) × (receives_on (codes "c") (b.Then (b.Split (place 1 1) c c c) end) ≡ true) × (receives_on (codes "c") (b.Hcase (place 1 1) c b.no_hcase_rows) ≡ true)
receipts = (refl, refl, refl)

others : (receives_on (codes "d") (b.Hcase (place 1 1) c b.no_hcase_rows) ≡ false) × (receives_on (codes "c") (b.Then (b.Put (place 1 1) (e.True (place 1 5)) c) end) ≡ false) × (receives_on (codes "c") (b.Then (b.Hput (place 1 1) c c) end) ≡ false) × (receives_on (codes "c") (b.Then (b.Close (place 1 1) c) end) ≡ false) × (receives_on (codes "c") end ≡ false)
others = (refl, refl, refl, refl, refl)
