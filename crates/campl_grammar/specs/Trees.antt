-- How the trees of terminals are made: the place of the first terminal, and then the parts in order.
use Rattle.std.specs.Prelude.{Bool, List, [], ◌∷◌, Option}
use Rattle.campl_tree.specs.declared.place.Place.{Place}
use Rattle.campl_tree.specs.declared.place.Ident.{Ident}
use Rattle.campl_tree.specs.declared.types.SeqType.{SeqType}
use Rattle.campl_tree.specs.declared.types.SeqType.TheVariants as s
use Rattle.campl_tree.specs.declared.types.ChanType.{ChanType}
use Rattle.campl_tree.specs.declared.types.ChanType.TheVariants as c
use Rattle.campl_tree.specs.declared.pattern.Pattern.{Pattern}
use Rattle.campl_tree.specs.declared.pattern.Pattern.TheVariants as p
use Rattle.campl_tree.specs.declared.expr.Comparison.{Comparison}
use Rattle.campl_tree.specs.declared.expr.Arithmetic.{Arithmetic}
use Rattle.campl_tree.specs.declared.expr.Expr.{Expr}
use Rattle.campl_tree.specs.declared.expr.Expr.TheVariants as e
use Rattle.campl_tree.specs.declared.expr.ExprRow.{ExprRow, roll-ExprRow}
use Rattle.campl_tree.specs.declared.process.Binder.{Binder}
use Rattle.campl_tree.specs.declared.process.Binder.TheVariants as binder
use Rattle.campl_tree.specs.declared.process.Action.{Action}
use Rattle.campl_tree.specs.declared.process.Action.TheVariants as a
use Rattle.campl_tree.specs.declared.process.Body.{Body, roll-Body}
use Rattle.campl_tree.specs.declared.process.Last.{Last}
use Rattle.campl_tree.specs.declared.process.Last.TheVariants as l
use Rattle.campl_tree.specs.declared.process.HcaseRow.{HcaseRow, roll-HcaseRow}
use Rattle.campl_tree.specs.declared.process.Branch.{Branch, roll-Branch}
use Rattle.campl_tree.specs.declared.process.CaseRow.{CaseRow, roll-CaseRow}
use Rattle.campl_tree.specs.declared.process.Part.{Part, roll-Part}
use Rattle.campl_tree.specs.declared.process.Link.{Link}
use Rattle.campl_tree.specs.declared.decl.DataConstructor.{DataConstructor}
use Rattle.campl_tree.specs.declared.decl.DataDecl.{DataDecl}
use Rattle.campl_tree.specs.declared.decl.ProtocolConstructor.{ProtocolConstructor}
use Rattle.campl_tree.specs.declared.decl.ProtocolDecl.{ProtocolDecl}
use Rattle.campl_tree.specs.declared.decl.CoprotocolConstructor.{CoprotocolConstructor}
use Rattle.campl_tree.specs.declared.decl.CoprotocolDecl.{CoprotocolDecl}
use Rattle.campl_tree.specs.declared.decl.FunctionRow.{FunctionRow}
use Rattle.campl_tree.specs.declared.decl.FunctionDecl.{FunctionDecl}
use Rattle.campl_tree.specs.declared.decl.ProcessRow.{ProcessRow}
use Rattle.campl_tree.specs.declared.decl.ProcessDecl.{ProcessDecl}
use Rattle.campl_tree.specs.declared.decl.Decl.{Decl}
use Rattle.campl_tree.specs.declared.decl.Program.{Program}
use Rattle.campl_grammar.specs.Terminal.{Terminal, name_of, number_of, content_of, character_of}

-- ---- declarations

abbrev pub program_of : List Decl → Program
program_of ds = record { declarations = ds }

abbrev pub data_of : Terminal → Ident → List Ident → List DataConstructor → DataDecl
data_of w x ps ks = record { place = w.place; name = x; parameters = ps; constructors = ks }

abbrev pub protocol_of : Terminal → Ident → List Ident → Ident → List ProtocolConstructor → ProtocolDecl
protocol_of w x ps local ks = record { place = w.place; name = x; parameters = ps; local = local; constructors = ks }

abbrev pub coprotocol_of : Terminal → Ident → Ident → List Ident → List CoprotocolConstructor → CoprotocolDecl
coprotocol_of w local x ps ks = record { place = w.place; local = local; name = x; parameters = ps; constructors = ks }

abbrev pub function_of : Terminal → Ident → List SeqType → SeqType → List FunctionRow → FunctionDecl
function_of w x ts t rs = record { place = w.place; name = x; parameters = ts; result = t; rows = rs }

abbrev pub process_of : Terminal → Ident → List SeqType → List ChanType → List ChanType → ProcessRow → ProcessDecl
process_of w x ts is os r = record { place = w.place; name = x; parameters = ts; inputs = is; outputs = os; row = r }

abbrev pub con_of : Ident → List SeqType → DataConstructor
con_of x ts = record { name = x; parts = ts }

abbrev pub pcon_of : Ident → ChanType → Ident → ProtocolConstructor
pcon_of x t local = record { name = x; channel_type = t; local = local }

abbrev pub qcon_of : Ident → Ident → ChanType → CoprotocolConstructor
qcon_of x local t = record { name = x; local = local; channel_type = t }

abbrev pub row_of : List Pattern → Expr → Place → FunctionRow
row_of qs x at = record { place = at; patterns = qs; value = x }

abbrev pub prow_of : List Binder → List Ident → List Ident → Body → Place → ProcessRow
prow_of vs is os b at = record { place = at; variables = vs; inputs = is; outputs = os; body = b }

abbrev pub variable_of : Terminal → Binder
variable_of w = binder.Variable w.place (name_of w)

abbrev pub wildcard_of : Terminal → Binder
wildcard_of w = binder.Wildcard w.place

-- ---- types

abbrev pub type_variable_of : Terminal → SeqType
type_variable_of w = s.Variable w.place (name_of w)

abbrev pub named_type_of : Terminal → List SeqType → SeqType
named_type_of w ts = s.Named w.place (name_of w) ts

abbrev pub named_channel_of : Terminal → List SeqType → ChanType
named_channel_of w ts = c.Named w.place (name_of w) ts

-- ---- processes

abbrev pub body_of : List Action → Last → Body
body_of done ending = roll-Body (record { actions = done; last = ending })

abbrev pub put_of : Terminal → Expr → Ident → Action
put_of w x ch = a.Put w.place x ch

abbrev pub get_of : Terminal → Binder → Ident → Action
get_of w v ch = a.Get w.place v ch

abbrev pub hput_of : Terminal → Ident → Ident → Action
hput_of w k ch = a.Hput w.place k ch

abbrev pub split_of : Terminal → Ident → Ident → Ident → Action
split_of w ch x y = a.Split w.place ch x y

abbrev pub close_of : Terminal → Ident → Action
close_of w ch = a.Close w.place ch

abbrev pub halt_of : Terminal → Option Ident → Last
halt_of w ch = l.Halt w.place ch

abbrev pub hcase_of : Terminal → Ident → List HcaseRow → Last
hcase_of w ch rs = l.Hcase w.place ch rs

abbrev pub fork_of : Terminal → Ident → Branch × Branch → Last
fork_of w ch both = l.Fork w.place ch both.0 both.1

abbrev pub plug_of : Terminal → List Link → List Part → Last
plug_of w ls ps = l.Plug w.place ls ps

abbrev pub race_of : Terminal → List Branch → Last
race_of w bs = l.Race w.place bs

abbrev pub case_of : Terminal → Expr → List CaseRow → Last
case_of w x rs = l.Case w.place x rs

abbrev pub identity_of : Bool → Ident → Terminal → Last
identity_of negated y w = l.Identity w.place (name_of w) negated y

abbrev pub process_call_of : List Expr → List Ident → List Ident → Terminal → Last
process_call_of xs is os w = l.Call w.place (name_of w) xs is os

abbrev pub hrow_of : Ident → Body → HcaseRow
hrow_of k b = roll-HcaseRow (record { constructor = k; body = b })

abbrev pub branch_of : Ident → Body → Branch
branch_of ch b = roll-Branch (record { channel = ch; body = b })

abbrev pub crow_of : Pattern → Body → CaseRow
crow_of q b = roll-CaseRow (record { pattern = q; body = b })

abbrev pub link_of : Ident → ChanType → Link
link_of x t = record { name = x; channel_type = t }

abbrev pub part_of : List Ident → List Ident → Body → Place → Part
part_of is os b at = roll-Part (record { place = at; inputs = is; outputs = os; body = b })

-- ---- patterns

abbrev pub wildcard_pattern_of : Terminal → Pattern
wildcard_pattern_of w = p.Wildcard w.place

abbrev pub variable_pattern_of : Terminal → Pattern
variable_pattern_of w = p.Variable w.place (name_of w)

abbrev pub number_pattern_of : Terminal → Pattern
number_pattern_of w = p.Number w.place (number_of w)

-- the minus, and the number behind it
abbrev pub negative_pattern_of : Terminal → Terminal → Pattern
negative_pattern_of w n = p.Negative w.place (number_of n)

abbrev pub character_pattern_of : Terminal → Pattern
character_pattern_of w = p.Character w.place (character_of w)

abbrev pub text_pattern_of : Terminal → Pattern
text_pattern_of w = p.Text w.place (content_of w)

abbrev pub true_pattern_of : Terminal → Pattern
true_pattern_of w = p.True w.place

abbrev pub false_pattern_of : Terminal → Pattern
false_pattern_of w = p.False w.place

abbrev pub constructor_pattern_of : Terminal → List Pattern → Pattern
constructor_pattern_of w qs = p.Constructor w.place (name_of w) qs

abbrev pub list_pattern_of : List Pattern → Place → Pattern
list_pattern_of qs at = p.List at qs

abbrev pub pair_pattern_of : Pattern → Pattern → Place → Pattern
pair_pattern_of r q at = p.Pair at q r

abbrev pub cons_pattern_of : Pattern → Pattern → Place → Pattern
cons_pattern_of r q at = p.Cons at q r

-- ---- expressions

abbrev pub if_of : Expr → Expr → Expr → Terminal → Expr
if_of x y z w = e.If w.place x y z

abbrev pub case_expr_of : Terminal → Expr → List ExprRow → Expr
case_expr_of w x rs = e.Case w.place x rs

abbrev pub erow_of : Pattern → Expr → ExprRow
erow_of q x = roll-ExprRow (record { pattern = q; value = x })

-- the right operand comes before the left one
abbrev pub or_of : Expr → Expr → Place → Expr
or_of y x at = e.Or at x y

abbrev pub and_of : Expr → Expr → Place → Expr
and_of y x at = e.And at x y

abbrev pub compare_of : Comparison → Expr → Expr → Place → Expr
compare_of op y x at = e.Compare at x op y

abbrev pub cons_of : Expr → Expr → Place → Expr
cons_of y x at = e.Cons at x y

abbrev pub append_of : Expr → Expr → Place → Expr
append_of y x at = e.Append at x y

-- an operator and its right operand
abbrev pub Term : Type 0
Term = Arithmetic × Expr

-- operators of one level, from left to right
abbrev pub calculate_of : Place → Expr → List Term → Expr
calculate_of at x [] = x
calculate_of at x (t ∷ ts) = calculate_of at (e.Calculate at x t.0 t.1) ts

-- the first operand and the terms
abbrev pub chain_of : Expr → List Term → Place → Expr
chain_of x ts at = calculate_of at x ts

-- a term and those behind it
abbrev pub terms_of : Expr → List Term → Arithmetic → List Term
terms_of y ts op = (op, y) ∷ ts

abbrev pub negate_of : Terminal → Expr → Expr
negate_of w x = e.Negate w.place x

abbrev pub number_expr_of : Terminal → Expr
number_expr_of w = e.Number w.place (number_of w)

abbrev pub character_expr_of : Terminal → Expr
character_expr_of w = e.Character w.place (character_of w)

abbrev pub text_expr_of : Terminal → Expr
text_expr_of w = e.Text w.place (content_of w)

abbrev pub true_of : Terminal → Expr
true_of w = e.True w.place

abbrev pub false_of : Terminal → Expr
false_of w = e.False w.place

abbrev pub variable_expr_of : Terminal → Expr
variable_expr_of w = e.Variable w.place (name_of w)

abbrev pub call_of : List Expr → Terminal → Expr
call_of xs w = e.Call w.place (name_of w) xs

abbrev pub code_of : Terminal → Expr → Expr
code_of w x = e.CodeOf w.place x

abbrev pub char_of : Terminal → Expr → Expr
char_of w x = e.CharOf w.place x

abbrev pub constructor_of : Terminal → List Expr → Expr
constructor_of w xs = e.Constructor w.place (name_of w) xs

abbrev pub list_of : List Expr → Place → Expr
list_of xs at = e.List at xs

abbrev pub pair_of : Expr → Expr → Place → Expr
pair_of y x at = e.Pair at x y

-- what has no operator behind it, or no comma, is itself
abbrev pub alone : {A : Type 0} → A → Place → A
alone x at = x
