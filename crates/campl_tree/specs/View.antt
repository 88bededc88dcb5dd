-- The plain trees that the enums stand for: the same nodes with the same parts and places, without
-- pointers.
use Rattle.std.specs.Prelude.{List, [], ◌∷◌, map}
use Rattle.campl_tree.specs.declared.types.SeqType.{SeqType, fold-SeqType}
use Rattle.campl_tree.specs.declared.types.SeqType.TheOpen.{SeqType-F}
use Rattle.campl_tree.specs.declared.types.ChanType.{ChanType, fold-ChanType}
use Rattle.campl_tree.specs.declared.types.ChanType.TheOpen.{ChanType-F}
use Rattle.campl_tree.specs.declared.pattern.Pattern.{Pattern, fold-Pattern}
use Rattle.campl_tree.specs.declared.pattern.Pattern.TheOpen.{Pattern-F}
use Rattle.campl_tree.specs.declared.expr.Expr.{Expr, fold-Expr}
use Rattle.campl_tree.specs.declared.expr.Expr.TheOpen.{Expr-F}
use Rattle.campl_tree.specs.declared.expr.ExprRow.{ExprRow, ExprRow-F, fold-ExprRow}
use Rattle.campl_tree.specs.declared.place.Ident.{Ident}
use Rattle.campl_tree.specs.declared.process.Action.{Action}
use Rattle.campl_tree.specs.declared.process.Action.TheVariants as action
use Rattle.campl_tree.specs.declared.process.Link.{Link}
use Rattle.campl_tree.specs.declared.process.Body.{Body, Body-F, fold-Body}
use Rattle.campl_tree.specs.declared.process.Last.{Last, fold-Last}
use Rattle.campl_tree.specs.declared.process.Last.TheOpen.{Last-F}
use Rattle.campl_tree.specs.declared.process.HcaseRow.{HcaseRow, HcaseRow-F, fold-HcaseRow}
use Rattle.campl_tree.specs.declared.process.Branch.{Branch, Branch-F, fold-Branch}
use Rattle.campl_tree.specs.declared.process.CaseRow.{CaseRow, CaseRow-F, fold-CaseRow}
use Rattle.campl_tree.specs.declared.process.Part.{Part, Part-F, fold-Part}
use Rattle.campl_tree.specs.declared.decl.DataConstructor.{DataConstructor}
use Rattle.campl_tree.specs.declared.decl.DataDecl.{DataDecl}
use Rattle.campl_tree.specs.declared.decl.ProtocolConstructor.{ProtocolConstructor}
use Rattle.campl_tree.specs.declared.decl.ProtocolDecl.{ProtocolDecl}
use Rattle.campl_tree.specs.declared.decl.CoprotocolConstructor.{CoprotocolConstructor}
use Rattle.campl_tree.specs.declared.decl.CoprotocolDecl.{CoprotocolDecl}
use Rattle.campl_tree.specs.declared.decl.FunctionRow.{FunctionRow}
use Rattle.campl_tree.specs.declared.decl.FunctionDecl.{FunctionDecl}
use Rattle.campl_tree.specs.declared.decl.ProcessRow.{ProcessRow}
use Rattle.campl_tree.specs.declared.decl.ProcessDecl.{ProcessDecl}
use Rattle.campl_tree.specs.declared.decl.Decl.{Decl}
use Rattle.campl_tree.specs.declared.decl.Decl.TheVariants as decl
use Rattle.campl_tree.specs.declared.decl.Program.{Program}
use Rattle.campl_tree.specs.Plain.SeqType as s
use Rattle.campl_tree.specs.Plain.ChanType as c
use Rattle.campl_tree.specs.Plain.Pattern as p
use Rattle.campl_tree.specs.Plain.Expr as e
use Rattle.campl_tree.specs.Plain.Process as b
use Rattle.campl_tree.specs.Plain.Decl as d

-- Types

abbrev pub seq_types : List s.SeqType → s.SeqTypes
seq_types [] = s.no_types
seq_types (t ∷ ts) = s.type_then t (seq_types ts)

-- one layer, its parts seen already
abbrev pub seq_layer : SeqType-F s.SeqType → s.SeqType
seq_layer SeqType-F.Int = s.Int
seq_layer SeqType-F.Char = s.Char
seq_layer SeqType-F.Bool = s.Bool
seq_layer (SeqType-F.List t) = s.List t
seq_layer (SeqType-F.Pair t u) = s.Pair t u
seq_layer (SeqType-F.Named at x ts) = s.Named at x (seq_types ts)
seq_layer (SeqType-F.Variable at x) = s.Variable at x

unfoldable pub view_seq : SeqType → s.SeqType
view_seq = fold-SeqType s.SeqType seq_layer

abbrev pub chan_layer : ChanType-F c.ChanType → c.ChanType
chan_layer (ChanType-F.Put t x) = c.Put (view_seq t) x
chan_layer (ChanType-F.Get t x) = c.Get (view_seq t) x
chan_layer (ChanType-F.Tensor x y) = c.Tensor x y
chan_layer (ChanType-F.Par x y) = c.Par x y
chan_layer ChanType-F.TopBot = c.TopBot
chan_layer (ChanType-F.Neg x) = c.Neg x
chan_layer (ChanType-F.Named at x ts) = c.Named at x (seq_types (map view_seq ts))

unfoldable pub view_chan : ChanType → c.ChanType
view_chan = fold-ChanType c.ChanType chan_layer

-- Patterns

abbrev pub patterns : List p.Pattern → p.Patterns
patterns [] = p.no_patterns
patterns (q ∷ qs) = p.pattern_then q (patterns qs)

abbrev pub pattern_layer : Pattern-F p.Pattern → p.Pattern
pattern_layer (Pattern-F.Wildcard at) = p.Wildcard at
pattern_layer (Pattern-F.Variable at x) = p.Variable at x
pattern_layer (Pattern-F.Number at n) = p.Number at n
pattern_layer (Pattern-F.Negative at n) = p.Negative at n
pattern_layer (Pattern-F.Character at n) = p.Character at n
pattern_layer (Pattern-F.Text at text) = p.Text at text
pattern_layer (Pattern-F.True at) = p.True at
pattern_layer (Pattern-F.False at) = p.False at
pattern_layer (Pattern-F.Constructor at x qs) = p.Constructor at x (patterns qs)
pattern_layer (Pattern-F.List at qs) = p.List at (patterns qs)
pattern_layer (Pattern-F.Pair at q r) = p.Pair at q r
pattern_layer (Pattern-F.Cons at q r) = p.Cons at q r

unfoldable pub view_pattern : Pattern → p.Pattern
view_pattern = fold-Pattern p.Pattern pattern_layer

-- Expressions

abbrev pub exprs : List e.Expr → e.Exprs
exprs [] = e.no_exprs
exprs (a ∷ as') = e.expr_then a (exprs as')

abbrev pub expr_rows : List (p.Pattern × e.Expr) → e.ExprRows
expr_rows [] = e.no_expr_rows
expr_rows (r ∷ rs) = e.expr_row_then r.0 r.1 (expr_rows rs)

abbrev pub expr_layer : Expr-F e.Expr (p.Pattern × e.Expr) → e.Expr
expr_layer (Expr-F.If at x y z) = e.If at x y z
expr_layer (Expr-F.Case at x rows) = e.Case at x (expr_rows rows)
expr_layer (Expr-F.Or at x y) = e.Or at x y
expr_layer (Expr-F.And at x y) = e.And at x y
expr_layer (Expr-F.Compare at x op y) = e.Compare at x op y
expr_layer (Expr-F.Cons at x y) = e.Cons at x y
expr_layer (Expr-F.Append at x y) = e.Append at x y
expr_layer (Expr-F.Calculate at x op y) = e.Calculate at x op y
expr_layer (Expr-F.Negate at x) = e.Negate at x
expr_layer (Expr-F.Number at n) = e.Number at n
expr_layer (Expr-F.Character at n) = e.Character at n
expr_layer (Expr-F.Text at text) = e.Text at text
expr_layer (Expr-F.True at) = e.True at
expr_layer (Expr-F.False at) = e.False at
expr_layer (Expr-F.Variable at x) = e.Variable at x
expr_layer (Expr-F.Call at x args) = e.Call at x (exprs args)
expr_layer (Expr-F.CodeOf at x) = e.CodeOf at x
expr_layer (Expr-F.CharOf at x) = e.CharOf at x
expr_layer (Expr-F.Constructor at x args) = e.Constructor at x (exprs args)
expr_layer (Expr-F.List at args) = e.List at (exprs args)
expr_layer (Expr-F.Pair at x y) = e.Pair at x y

abbrev pub expr_row_layer : ExprRow-F e.Expr (p.Pattern × e.Expr) → p.Pattern × e.Expr
expr_row_layer r = (view_pattern r.pattern, r.value)

unfoldable pub view_expr : Expr → e.Expr
view_expr = fold-Expr e.Expr (p.Pattern × e.Expr) expr_layer expr_row_layer

unfoldable pub view_expr_row : ExprRow → p.Pattern × e.Expr
view_expr_row = fold-ExprRow e.Expr (p.Pattern × e.Expr) expr_layer expr_row_layer

-- Processes

abbrev pub view_action : Action → b.Action
view_action (action.Put at x channel) = b.Put at (view_expr x) channel
view_action (action.Get at binder channel) = b.Get at binder channel
view_action (action.Hput at constructor channel) = b.Hput at constructor channel
view_action (action.Split at channel x y) = b.Split at channel x y
view_action (action.Close at channel) = b.Close at channel

abbrev pub view_link : Link → b.Link
view_link l = record { name = l.name; channel_type = view_chan l.channel_type }

abbrev pub hcase_rows : List (Ident × b.Body) → b.HcaseRows
hcase_rows [] = b.no_hcase_rows
hcase_rows (r ∷ rs) = b.hcase_row_then r.0 r.1 (hcase_rows rs)

abbrev pub branches : List (Ident × b.Body) → b.Branches
branches [] = b.no_branches
branches (r ∷ rs) = b.branch_then r.0 r.1 (branches rs)

abbrev pub case_rows : List (p.Pattern × b.Body) → b.CaseRows
case_rows [] = b.no_case_rows
case_rows (r ∷ rs) = b.case_row_then r.0 r.1 (case_rows rs)

abbrev pub parts : List (b.Header × b.Body) → b.Parts
parts [] = b.no_parts
parts (r ∷ rs) = b.part_then r.0 r.1 (parts rs)

-- the actions, and then the last command
abbrev pub actions_then : List b.Action → b.Body → b.Body
actions_then [] last = last
actions_then (a ∷ more) last = b.Then a (actions_then more last)

abbrev pub last_layer : Last-F b.Body b.Body (Ident × b.Body) (p.Pattern × b.Body) (Ident × b.Body) (b.Header × b.Body) → b.Body
last_layer (Last-F.Halt at channel) = b.Halt at channel
last_layer (Last-F.Hcase at channel rows) = b.Hcase at channel (hcase_rows rows)
last_layer (Last-F.Fork at channel x y) = b.Fork at channel x.0 x.1 y.0 y.1
last_layer (Last-F.Plug at links rows) = b.Plug at (map view_link links) (parts rows)
last_layer (Last-F.Race at rows) = b.Race at (branches rows)
last_layer (Last-F.Case at x rows) = b.Case at (view_expr x) (case_rows rows)
last_layer (Last-F.Identity at x negated y) = b.Identity at x negated y
last_layer (Last-F.Call at x args inputs outputs) = b.Call at x (exprs (map view_expr args)) inputs outputs

abbrev pub body_layer : Body-F b.Body b.Body (Ident × b.Body) (p.Pattern × b.Body) (Ident × b.Body) (b.Header × b.Body) → b.Body
body_layer r = actions_then (map view_action r.actions) r.last

abbrev pub hcase_row_layer : HcaseRow-F b.Body b.Body (Ident × b.Body) (p.Pattern × b.Body) (Ident × b.Body) (b.Header × b.Body) → Ident × b.Body
hcase_row_layer r = (r.constructor, r.body)

abbrev pub branch_layer : Branch-F b.Body b.Body (Ident × b.Body) (p.Pattern × b.Body) (Ident × b.Body) (b.Header × b.Body) → Ident × b.Body
branch_layer r = (r.channel, r.body)

abbrev pub case_row_layer : CaseRow-F b.Body b.Body (Ident × b.Body) (p.Pattern × b.Body) (Ident × b.Body) (b.Header × b.Body) → p.Pattern × b.Body
case_row_layer r = (view_pattern r.pattern, r.body)

abbrev pub part_layer : Part-F b.Body b.Body (Ident × b.Body) (p.Pattern × b.Body) (Ident × b.Body) (b.Header × b.Body) → b.Header × b.Body
part_layer r = (record { place = r.place; inputs = r.inputs; outputs = r.outputs }, r.body)

unfoldable pub view_body : Body → b.Body
view_body = fold-Body b.Body b.Body (Ident × b.Body) (p.Pattern × b.Body) (Ident × b.Body) (b.Header × b.Body) last_layer body_layer branch_layer case_row_layer hcase_row_layer part_layer

unfoldable pub view_last : Last → b.Body
view_last = fold-Last b.Body b.Body (Ident × b.Body) (p.Pattern × b.Body) (Ident × b.Body) (b.Header × b.Body) last_layer body_layer branch_layer case_row_layer hcase_row_layer part_layer

unfoldable pub view_branch : Branch → Ident × b.Body
view_branch = fold-Branch b.Body b.Body (Ident × b.Body) (p.Pattern × b.Body) (Ident × b.Body) (b.Header × b.Body) last_layer body_layer branch_layer case_row_layer hcase_row_layer part_layer

unfoldable pub view_case_row : CaseRow → p.Pattern × b.Body
view_case_row = fold-CaseRow b.Body b.Body (Ident × b.Body) (p.Pattern × b.Body) (Ident × b.Body) (b.Header × b.Body) last_layer body_layer branch_layer case_row_layer hcase_row_layer part_layer

unfoldable pub view_hcase_row : HcaseRow → Ident × b.Body
view_hcase_row = fold-HcaseRow b.Body b.Body (Ident × b.Body) (p.Pattern × b.Body) (Ident × b.Body) (b.Header × b.Body) last_layer body_layer branch_layer case_row_layer hcase_row_layer part_layer

unfoldable pub view_part : Part → b.Header × b.Body
view_part = fold-Part b.Body b.Body (Ident × b.Body) (p.Pattern × b.Body) (Ident × b.Body) (b.Header × b.Body) last_layer body_layer branch_layer case_row_layer hcase_row_layer part_layer

-- Declarations

abbrev pub view_data_constructor : DataConstructor → d.DataConstructor
view_data_constructor k = record { name = k.name; parts = map view_seq k.parts }

abbrev pub view_data : DataDecl → d.DataDecl
view_data k =
    record { place = k.place; name = k.name; parameters = k.parameters; constructors = map view_data_constructor k.constructors }

abbrev pub view_protocol_constructor : ProtocolConstructor → d.ProtocolConstructor
view_protocol_constructor k = record { name = k.name; channel_type = view_chan k.channel_type; local = k.local }

abbrev pub view_protocol : ProtocolDecl → d.ProtocolDecl
view_protocol k =
    record {
      place = k.place;
      name = k.name;
      parameters = k.parameters;
      local = k.local;
      constructors = map view_protocol_constructor k.constructors;
    }

abbrev pub view_coprotocol_constructor : CoprotocolConstructor → d.CoprotocolConstructor
view_coprotocol_constructor k = record { name = k.name; local = k.local; channel_type = view_chan k.channel_type }

abbrev pub view_coprotocol : CoprotocolDecl → d.CoprotocolDecl
view_coprotocol k =
    record {
      place = k.place;
      local = k.local;
      name = k.name;
      parameters = k.parameters;
      constructors = map view_coprotocol_constructor k.constructors;
    }

abbrev pub view_function_row : FunctionRow → d.FunctionRow
view_function_row r = record { place = r.place; patterns = patterns (map view_pattern r.patterns); value = view_expr r.value }

abbrev pub view_function : FunctionDecl → d.FunctionDecl
view_function k =
    record {
      place = k.place;
      name = k.name;
      parameters = map view_seq k.parameters;
      result = view_seq k.result;
      rows = map view_function_row k.rows;
    }

abbrev pub view_process_row : ProcessRow → d.ProcessRow
view_process_row r =
    record { place = r.place; variables = r.variables; inputs = r.inputs; outputs = r.outputs; body = view_body r.body }

abbrev pub view_process : ProcessDecl → d.ProcessDecl
view_process k =
    record {
      place = k.place;
      name = k.name;
      parameters = map view_seq k.parameters;
      inputs = map view_chan k.inputs;
      outputs = map view_chan k.outputs;
      row = view_process_row k.row;
    }

abbrev pub view_decl : Decl → d.Decl
view_decl (decl.Data k) = d.Data (view_data k)
view_decl (decl.Protocol k) = d.Protocol (view_protocol k)
view_decl (decl.Coprotocol k) = d.Coprotocol (view_coprotocol k)
view_decl (decl.Function k) = d.Function (view_function k)
view_decl (decl.Process k) = d.Process (view_process k)

abbrev pub view_program : Program → d.Program
view_program t = map view_decl t.declarations
