-- Each rule on names that are used, as the faults of one form, in source order.
use Rattle.std.proofs.Common.{◌≡◌, refl, ℕ, pos, List, [], ◌∷◌, Some, true, codes}
use Rattle.campl_tree.specs.declared.place.Ident.{Ident}
use Rattle.campl_tree.specs.declared.expr.Arithmetic.TheVariants as calculate
use Rattle.campl_tree.specs.declared.expr.Comparison.TheVariants as compare
use Rattle.campl_tree.specs.declared.process.Binder.TheVariants as binder
use Rattle.campl_tree.specs.Plain.SeqType as s
use Rattle.campl_tree.specs.Plain.ChanType.{Put, Get, Tensor, Par, TopBot, Neg, Named}
use Rattle.campl_tree.specs.Plain.Pattern as p
use Rattle.campl_tree.specs.Plain.Expr as e
use Rattle.campl_tree.specs.Plain.Process as b
use Rattle.campl_tree.specs.Plain.Decl as d
use Rattle.campl_types.specs.declared.fault.NameFault.{NameFault}
use Rattle.campl_types.specs.declared.fault.NameFault.TheVariants.{Unknown, WrongKind, TypeArguments}
use Rattle.campl_types.specs.Names.{Name}
use Rattle.campl_types.specs.Known.{Heading, outside, in_seq, in_chan, in_pattern, in_expr, in_action, in_body, in_decl}
use Rattle.campl_types.specs.World.{World, world_of}
use Rattle.typing_examples.proofs.Sources.{place, ident, named, protocol, data_decl, constructor, silent_run}

-- data Maybe(a) where
--     None
--     Just(a)
-- fun one :: -> Int where
--     -> 1
-- proc run :: | => where
--     | => -> halt
abbrev one : d.Decl
one =
    d.Function
    (record {
      place = place 4 1;
      name = ident 4 5 (codes "one");
      parameters = [];
      result = s.Int;
      rows = record { place = place 5 5; patterns = p.no_patterns; value = e.Number (place 5 8) (pos 1) } ∷ [];
    })

abbrev w : World
w = world_of (data_decl 1 (ident 1 6 (codes "Maybe")) (ident 1 12 (codes "a") ∷ []) (constructor (ident 2 5 (codes "None")) [] ∷ constructor (ident 3 5 (codes "Just")) (s.Variable (place 3 10) (codes "a") ∷ []) ∷ []) ∷ one ∷ silent_run 6 ∷ [])

-- nothing is known by this name
abbrev nope : Name
nope = codes "Nope"

-- where a is a parameter, and S stands for the protocol itself
abbrev heading : Heading
heading = record { parameters = codes "a" ∷ []; local = Some (codes "S") }

-- Types

-- (Int, [Nope])
in-a-pair : in_seq w outside (s.Pair s.Int (s.List (named 1 7 nope))) ≡ Unknown (place 1 7) nope ∷ []
in-a-pair = refl

-- a variable that is a parameter, and one that isn't
type-variables : in_seq w heading (s.Pair (s.Variable (place 1 2) (codes "a")) (s.Variable (place 1 5) (codes "b"))) ≡ Unknown (place 1 5) (codes "b") ∷ []
type-variables = refl

-- Console is no data type
protocol-as-data : in_seq w outside (named 1 1 (codes "Console")) ≡ WrongKind (place 1 1) (codes "Console") ∷ []
protocol-as-data = refl

-- Maybe(Nope, Int): the number comes before the arguments' faults
arguments : in_seq w outside (s.Named (place 1 1) (codes "Maybe") (s.type_then (named 1 7 nope) (s.type_then s.Int s.no_types))) ≡ TypeArguments (place 1 1) 2 1 ∷ Unknown (place 1 7) nope ∷ []
arguments = refl

-- Maybe is no protocol, and Nope nothing
data-as-protocol : in_chan w outside (Tensor (protocol 1 1 (codes "Maybe")) (Neg (protocol 1 15 nope))) ≡ WrongKind (place 1 1) (codes "Maybe") ∷ Unknown (place 1 15) nope ∷ []
data-as-protocol = refl

-- Get(Nope | Console) (+) TopBot
in-a-get : in_chan w outside (Par (Get (named 1 5 nope) (protocol 1 12 (codes "Console"))) TopBot) ≡ Unknown (place 1 5) nope ∷ []
in-a-get = refl

-- S stands for the protocol without arguments, and outside of its lines for nothing
own-name : in_chan w heading (Named (place 1 1) (codes "S") (s.type_then s.Int s.no_types)) ≡ TypeArguments (place 1 1) 1 0 ∷ []
own-name = refl

own-name-outside : in_chan w outside (protocol 1 1 (codes "S")) ≡ Unknown (place 1 1) (codes "S") ∷ []
own-name-outside = refl

-- it hides a type of its name, so here Maybe is a protocol and no data type
abbrev hiding : Heading
hiding = record { parameters = []; local = Some (codes "Maybe") }

hides : in_chan w hiding (Put (named 1 5 (codes "Maybe")) (protocol 1 13 (codes "Maybe"))) ≡ WrongKind (place 1 5) (codes "Maybe") ∷ []
hides = refl

-- Patterns

abbrev strange : ℕ → p.Pattern
strange column = p.Constructor (place 1 column) nope p.no_patterns

-- Just([Nope])
in-a-constructor : in_pattern w (p.Constructor (place 1 1) (codes "Just") (p.pattern_then (p.List (place 1 6) (p.pattern_then (strange 7) p.no_patterns)) p.no_patterns)) ≡ Unknown (place 1 7) nope ∷ []
in-a-constructor = refl

-- (Nope, Nope : x)
in-pairs : in_pattern w (p.Pair (place 1 1) (strange 2) (p.Cons (place 1 8) (strange 8) (p.Variable (place 1 15) (codes "x")))) ≡ Unknown (place 1 2) nope ∷ Unknown (place 1 8) nope ∷ []
in-pairs = refl

-- ConsolePut is no constructor of data
protocol's : in_pattern w (p.Constructor (place 1 1) (codes "ConsolePut") p.no_patterns) ≡ WrongKind (place 1 1) (codes "ConsolePut") ∷ []
protocol's = refl

-- Expressions, where nothing but x is a variable

abbrev faults : e.Expr → List NameFault
faults = in_expr w (codes "x" ∷ [])

abbrev lost : ℕ → e.Expr
lost column = e.Variable (place 1 column) (codes "y")

abbrev lost-at : ℕ → NameFault
lost-at column = Unknown (place 1 column) (codes "y")

abbrev known : e.Expr
known = e.Variable (place 1 9) (codes "x")

-- if y then y else y
choice : faults (e.If (place 1 1) (lost 4) (lost 11) (lost 18)) ≡ lost-at 4 ∷ lost-at 11 ∷ lost-at 18 ∷ []
choice = refl

-- case y of
--     y -> y
--     _ -> y
-- knows the first row's y in its value alone
by-cases : faults (e.Case (place 1 1) (lost 6) (e.expr_row_then (p.Variable (place 2 5) (codes "y")) (lost 2) (e.expr_row_then (p.Wildcard (place 3 5)) (lost 3) e.no_expr_rows))) ≡ lost-at 6 ∷ lost-at 3 ∷ []
by-cases = refl

-- y || y && y
logic : faults (e.Or (place 1 1) (lost 1) (e.And (place 1 6) (lost 6) (lost 11))) ≡ lost-at 1 ∷ lost-at 6 ∷ lost-at 11 ∷ []
logic = refl

-- y : y ++ y == y
lists : faults (e.Compare (place 1 1) (e.Cons (place 1 1) (lost 1) (e.Append (place 1 5) (lost 5) (lost 10))) compare.Equal (lost 15)) ≡ lost-at 1 ∷ lost-at 5 ∷ lost-at 10 ∷ lost-at 15 ∷ []
lists = refl

-- - y + code(y) : [char(y), x]
sums : faults (e.Cons (place 1 1) (e.Calculate (place 1 1) (e.Negate (place 1 1) (lost 3)) calculate.Add (e.CodeOf (place 1 7) (lost 12))) (e.List (place 1 17) (e.expr_then (e.CharOf (place 1 18) (lost 23)) (e.expr_then known e.no_exprs)))) ≡ lost-at 3 ∷ lost-at 12 ∷ lost-at 23 ∷ []
sums = refl

-- (y, Just(y)), and constructors of no data
built : faults (e.Pair (place 1 1) (lost 2) (e.Constructor (place 1 5) (codes "Just") (e.expr_then (lost 10) e.no_exprs))) ≡ lost-at 2 ∷ lost-at 10 ∷ []
built = refl

no-data : faults (e.Pair (place 1 1) (e.Constructor (place 1 2) nope e.no_exprs) (e.Constructor (place 1 8) (codes "ConsolePut") e.no_exprs)) ≡ Unknown (place 1 2) nope ∷ WrongKind (place 1 8) (codes "ConsolePut") ∷ []
no-data = refl

-- a function's name isn't a variable, and a variable is no function
function-as-variable : faults (e.Variable (place 1 1) (codes "one")) ≡ Unknown (place 1 1) (codes "one") ∷ []
function-as-variable = refl

variable-as-function : faults (e.Call (place 1 1) (codes "x") e.no_exprs) ≡ Unknown (place 1 1) (codes "x") ∷ []
variable-as-function = refl

-- one(y)
called : faults (e.Call (place 1 1) (codes "one") (e.expr_then (lost 5) e.no_exprs)) ≡ lost-at 5 ∷ []
called = refl

-- Processes

abbrev c : Ident
c = ident 1 30 (codes "c")

-- put y on c
abbrev says : ℕ → b.Body → b.Body
says column = b.Then (b.Put (place 1 1) (lost column) c)

abbrev end : b.Body
end = b.Halt (place 9 9) (Some c)

-- ConsolePut may be picked, and Just may not
picks : (in_action w [] (b.Hput (place 1 1) (ident 1 6 (codes "ConsolePut")) c) ≡ []) × (in_action w [] (b.Hput (place 1 1) (ident 1 6 (codes "Just")) c) ≡ WrongKind (place 1 6) (codes "Just") ∷ [])
picks = (refl, refl)

-- get y on c, get _ on c, split c into c, c and close c
gets : in_body w [] (b.Then (b.Get (place 1 1) (binder.Variable (place 1 5) (codes "y")) c) (says 5 end)) ≡ []
gets = refl

gets-nothing : in_body w [] (b.Then (b.Get (place 1 1) (binder.Wildcard (place 1 5)) c) (says 5 end)) ≡ lost-at 5 ∷ []
gets-nothing = refl

channels-alone : in_body w [] (b.Then (b.Split (place 1 1) c c c) (b.Then (b.Close (place 2 1) c) (b.Identity (place 3 1) (codes "c") true c))) ≡ []
channels-alone = refl

-- hcase c of
--     Nope -> put y on c ..
--     Just -> halt c
rows : in_body w [] (b.Hcase (place 1 1) c (b.hcase_row_then (ident 2 5 nope) (says 2 end) (b.hcase_row_then (ident 3 5 (codes "Just")) end b.no_hcase_rows))) ≡ Unknown (place 2 5) nope ∷ lost-at 2 ∷ WrongKind (place 3 5) (codes "Just") ∷ []
rows = refl

forks : in_body w [] (b.Fork (place 1 1) c c (says 2 end) c (says 3 end)) ≡ lost-at 2 ∷ lost-at 3 ∷ []
forks = refl

races : in_body w [] (b.Race (place 1 1) (b.branch_then c (says 2 end) (b.branch_then c (says 3 end) b.no_branches))) ≡ lost-at 2 ∷ lost-at 3 ∷ []
races = refl

-- links come before parts
plugs : in_body w [] (b.Plug (place 1 1) (record { name = c; channel_type = protocol 1 11 nope } ∷ []) (b.part_then (record { place = place 2 5; inputs = []; outputs = [] }) (says 2 end) b.no_parts)) ≡ Unknown (place 1 11) nope ∷ lost-at 2 ∷ []
plugs = refl

-- case y of
--     Nope -> halt c
--     y -> put y on c ..
-- and then put y on c ..
case-rows : in_body w [] (b.Case (place 1 1) (lost 6) (b.case_row_then (strange 2) end (b.case_row_then (p.Variable (place 3 5) (codes "y")) (says 3 end) (b.case_row_then (p.Wildcard (place 4 5)) (says 4 end) b.no_case_rows)))) ≡ lost-at 6 ∷ Unknown (place 1 2) nope ∷ lost-at 4 ∷ []
case-rows = refl

-- one( | => ) and other(y | => )
function-as-process : in_body w [] (b.Call (place 1 1) (codes "one") e.no_exprs [] []) ≡ WrongKind (place 1 1) (codes "one") ∷ []
function-as-process = refl

unknown-process : in_body w [] (b.Call (place 1 1) (codes "other") (e.expr_then (lost 7) e.no_exprs) [] []) ≡ Unknown (place 1 1) (codes "other") ∷ lost-at 7 ∷ []
unknown-process = refl

-- Declarations

-- protocol P => S where
--     Line :: Nope => T
-- coprotocol S => Q where
--     Other :: T => Nope
-- are judged as they stand
protocol-line : in_decl w (d.Protocol (record { place = place 1 1; name = ident 1 10 (codes "P"); parameters = []; local = ident 1 15 (codes "S"); constructors = record { name = ident 2 5 (codes "Line"); channel_type = protocol 2 13 nope; local = ident 2 21 (codes "T") } ∷ [] })) ≡ Unknown (place 2 13) nope ∷ WrongKind (place 2 21) (codes "T") ∷ []
protocol-line = refl

coprotocol-line : in_decl w (d.Coprotocol (record { place = place 3 1; local = ident 3 12 (codes "S"); name = ident 3 17 (codes "Q"); parameters = []; constructors = record { name = ident 4 5 (codes "Other"); local = ident 4 14 (codes "T"); channel_type = protocol 4 19 nope } ∷ [] })) ≡ WrongKind (place 4 14) (codes "T") ∷ Unknown (place 4 19) nope ∷ []
coprotocol-line = refl

-- fun f :: a, Nope -> b where
--     y, Nope -> y
-- has its types' variables as parameters, in whatever type they stand
function : in_decl w (d.Function (record { place = place 1 1; name = ident 1 5 (codes "f"); parameters = s.Variable (place 1 10) (codes "a") ∷ named 1 13 nope ∷ []; result = s.Variable (place 1 21) (codes "b"); rows = record { place = place 2 5; patterns = p.pattern_then (p.Variable (place 2 5) (codes "y")) (p.pattern_then (strange 8) p.no_patterns); value = lost 16 } ∷ [] })) ≡ Unknown (place 1 13) nope ∷ Unknown (place 1 8) nope ∷ []
function = refl

-- proc q :: Nope | Nope => Nope where
--     y, _ | => -> put y on c ..
process : in_decl w (d.Process (record { place = place 1 1; name = ident 1 6 (codes "q"); parameters = named 1 11 nope ∷ []; inputs = protocol 1 18 nope ∷ []; outputs = protocol 1 26 nope ∷ []; row = record { place = place 2 5; variables = binder.Variable (place 2 5) (codes "y") ∷ binder.Wildcard (place 2 8) ∷ []; inputs = []; outputs = []; body = says 22 end } })) ≡ Unknown (place 1 11) nope ∷ Unknown (place 1 18) nope ∷ Unknown (place 1 26) nope ∷ []
process = refl
