-- Each used name is known, of its kind, and has as many type arguments as its declaration has
-- parameters. The faults of a form are listed in source order; at one name that of the number of
-- arguments is the last.
use Rattle.std.specs.Prelude.{ℕ, Bool, false, List, [], ◌∷◌, ◌++◌, Option, Some, None, if◌then◌else◌, eqb, length}
use Rattle.campl_tree.specs.declared.place.Place.{Place}
use Rattle.campl_tree.specs.declared.place.Ident.{Ident}
use Rattle.campl_tree.specs.Plain.SeqType as s
use Rattle.campl_tree.specs.Plain.ChanType as c
use Rattle.campl_tree.specs.Plain.Pattern as p
use Rattle.campl_tree.specs.Plain.Expr as e
use Rattle.campl_tree.specs.Plain.Process as b
use Rattle.campl_tree.specs.Plain.Decl as d
use Rattle.campl_types.specs.declared.fault.NameFault.{NameFault}
use Rattle.campl_types.specs.declared.fault.NameFault.TheVariants.{Unknown, WrongKind, TypeArguments}
use Rattle.campl_types.specs.Names.{Name, same_name, is_among}
use Rattle.campl_types.specs.Substitution.{list_of}
use Rattle.campl_types.specs.Patterns.{bound_in, bound_in_all, bound_by, bound_by_all}
use Rattle.campl_types.specs.World.{World, TypeEntry, DataType, ProtocolType, CoprotocolType, type_named, names_of, ConstructorEntry, OfData, OfProtocol, OfCoprotocol, constructor_named, LowerEntry, AFunction, AProcess, lower_named, type_parameters}

-- Types

-- what stands round a type: the type parameters of its declaration, and the name that stands for the
-- protocol itself
pub record Heading : Type 0 where
  pub parameters : List Name
  pub local : Option Name

abbrev pub is_local : Option Name → Name → Bool
is_local None x = false
is_local (Some s) x = same_name s x

abbrev pub counted : Place → (found wanted : ℕ) → List NameFault
counted at found wanted = if eqb found wanted then [] else TypeArguments at found wanted ∷ []

abbrev pub a_data_type : Option TypeEntry → Place → Name → ℕ → List NameFault
a_data_type (Some (DataType d)) at x n = counted at n (length d.parameters)
a_data_type (Some (ProtocolType d)) at x n = WrongKind at x ∷ []
a_data_type (Some (CoprotocolType d)) at x n = WrongKind at x ∷ []
a_data_type None at x n = Unknown at x ∷ []

abbrev pub a_protocol : Option TypeEntry → Place → Name → ℕ → List NameFault
a_protocol (Some (DataType d)) at x n = WrongKind at x ∷ []
a_protocol (Some (ProtocolType d)) at x n = counted at n (length d.parameters)
a_protocol (Some (CoprotocolType d)) at x n = counted at n (length d.parameters)
a_protocol None at x n = Unknown at x ∷ []

abbrev mutual
  pub in_seq : World → Heading → s.SeqType → List NameFault
  in_seq w h s.Int = []
  in_seq w h s.Char = []
  in_seq w h s.Bool = []
  in_seq w h (s.List t) = in_seq w h t
  in_seq w h (s.Pair t u) = in_seq w h t ++ in_seq w h u
  in_seq w h (s.Named at x ts) =
      (if is_local h.local x then WrongKind at x ∷ [] else a_data_type (type_named w x) at x (length (list_of ts))) ++ in_seqs w h ts
  in_seq w h (s.Variable at x) = if is_among x h.parameters then [] else Unknown at x ∷ []

  pub in_seqs : World → Heading → s.SeqTypes → List NameFault
  in_seqs w h s.no_types = []
  in_seqs w h (s.type_then t ts) = in_seq w h t ++ in_seqs w h ts

-- the name that stands for the protocol itself takes no arguments, and hides a declared type
abbrev pub in_chan : World → Heading → c.ChanType → List NameFault
in_chan w h (c.Put t x) = in_seq w h t ++ in_chan w h x
in_chan w h (c.Get t x) = in_seq w h t ++ in_chan w h x
in_chan w h (c.Tensor x y) = in_chan w h x ++ in_chan w h y
in_chan w h (c.Par x y) = in_chan w h x ++ in_chan w h y
in_chan w h c.TopBot = []
in_chan w h (c.Neg x) = in_chan w h x
in_chan w h (c.Named at x ts) =
    (if is_local h.local x then counted at (length (list_of ts)) 0 else a_protocol (type_named w x) at x (length (list_of ts))) ++ in_seqs w h ts

abbrev pub each : {A : Type 0} → (A → List NameFault) → List A → List NameFault
each f [] = []
each f (x ∷ xs) = f x ++ each f xs

-- Constructors

abbrev pub of_data : Option ConstructorEntry → Place → Name → List NameFault
of_data (Some (OfData d n k)) at x = []
of_data (Some (OfProtocol d n k)) at x = WrongKind at x ∷ []
of_data (Some (OfCoprotocol d n k)) at x = WrongKind at x ∷ []
of_data None at x = Unknown at x ∷ []

abbrev pub of_protocol : Option ConstructorEntry → Place → Name → List NameFault
of_protocol (Some (OfData d n k)) at x = WrongKind at x ∷ []
of_protocol (Some (OfProtocol d n k)) at x = []
of_protocol (Some (OfCoprotocol d n k)) at x = []
of_protocol None at x = Unknown at x ∷ []

abbrev mutual
  pub in_pattern : World → p.Pattern → List NameFault
  in_pattern w (p.Wildcard at) = []
  in_pattern w (p.Variable at x) = []
  in_pattern w (p.Number at n) = []
  in_pattern w (p.Negative at n) = []
  in_pattern w (p.Character at n) = []
  in_pattern w (p.Text at text) = []
  in_pattern w (p.True at) = []
  in_pattern w (p.False at) = []
  in_pattern w (p.Constructor at x ps) = of_data (constructor_named w x) at x ++ in_patterns w ps
  in_pattern w (p.List at ps) = in_patterns w ps
  in_pattern w (p.Pair at p q) = in_pattern w p ++ in_pattern w q
  in_pattern w (p.Cons at p q) = in_pattern w p ++ in_pattern w q

  pub in_patterns : World → p.Patterns → List NameFault
  in_patterns w p.no_patterns = []
  in_patterns w (p.pattern_then p ps) = in_pattern w p ++ in_patterns w ps

-- Functions, processes and variables

abbrev pub a_function : Option LowerEntry → Place → Name → List NameFault
a_function (Some (AFunction f)) at x = []
a_function (Some (AProcess p)) at x = WrongKind at x ∷ []
a_function None at x = Unknown at x ∷ []

abbrev pub a_process : Option LowerEntry → Place → Name → List NameFault
a_process (Some (AFunction f)) at x = WrongKind at x ∷ []
a_process (Some (AProcess p)) at x = []
a_process None at x = Unknown at x ∷ []

-- under these variables; those of a row's pattern are known in its value
abbrev mutual
  pub in_expr : World → List Name → e.Expr → List NameFault
  in_expr w vs (e.If at c a b) = in_expr w vs c ++ in_expr w vs a ++ in_expr w vs b
  in_expr w vs (e.Case at a rows) = in_expr w vs a ++ in_expr_rows w vs rows
  in_expr w vs (e.Or at a b) = in_expr w vs a ++ in_expr w vs b
  in_expr w vs (e.And at a b) = in_expr w vs a ++ in_expr w vs b
  in_expr w vs (e.Compare at a op b) = in_expr w vs a ++ in_expr w vs b
  in_expr w vs (e.Cons at a b) = in_expr w vs a ++ in_expr w vs b
  in_expr w vs (e.Append at a b) = in_expr w vs a ++ in_expr w vs b
  in_expr w vs (e.Calculate at a op b) = in_expr w vs a ++ in_expr w vs b
  in_expr w vs (e.Negate at a) = in_expr w vs a
  in_expr w vs (e.Number at n) = []
  in_expr w vs (e.Character at n) = []
  in_expr w vs (e.Text at text) = []
  in_expr w vs (e.True at) = []
  in_expr w vs (e.False at) = []
  in_expr w vs (e.Variable at x) = if is_among x vs then [] else Unknown at x ∷ []
  in_expr w vs (e.Call at x args) = a_function (lower_named w x) at x ++ in_exprs w vs args
  in_expr w vs (e.CodeOf at a) = in_expr w vs a
  in_expr w vs (e.CharOf at a) = in_expr w vs a
  in_expr w vs (e.Constructor at x args) = of_data (constructor_named w x) at x ++ in_exprs w vs args
  in_expr w vs (e.List at args) = in_exprs w vs args
  in_expr w vs (e.Pair at a b) = in_expr w vs a ++ in_expr w vs b

  pub in_exprs : World → List Name → e.Exprs → List NameFault
  in_exprs w vs e.no_exprs = []
  in_exprs w vs (e.expr_then a rest) = in_expr w vs a ++ in_exprs w vs rest

  pub in_expr_rows : World → List Name → e.ExprRows → List NameFault
  in_expr_rows w vs e.no_expr_rows = []
  in_expr_rows w vs (e.expr_row_then p a rows) = in_pattern w p ++ in_expr w (bound_in p ++ vs) a ++ in_expr_rows w vs rows

-- Processes; what a `get` binds is known in what follows it

abbrev pub outside : Heading
outside = record { parameters = []; local = None }

abbrev pub in_action : World → List Name → b.Action → List NameFault
in_action w vs (b.Put at a channel) = in_expr w vs a
in_action w vs (b.Get at v channel) = []
in_action w vs (b.Hput at k channel) = of_protocol (constructor_named w k.name) k.place k.name
in_action w vs (b.Split at channel x y) = []
in_action w vs (b.Close at channel) = []

abbrev pub bound_by_action : b.Action → List Name
bound_by_action (b.Put at a channel) = []
bound_by_action (b.Get at v channel) = bound_by v
bound_by_action (b.Hput at k channel) = []
bound_by_action (b.Split at channel x y) = []
bound_by_action (b.Close at channel) = []

abbrev mutual
  pub in_body : World → List Name → b.Body → List NameFault
  in_body w vs (b.Then a rest) = in_action w vs a ++ in_body w (bound_by_action a ++ vs) rest
  in_body w vs (b.Halt at channel) = []
  in_body w vs (b.Hcase at channel rows) = in_hcase_rows w vs rows
  in_body w vs (b.Fork at channel x left y right) = in_body w vs left ++ in_body w vs right
  in_body w vs (b.Plug at links parts) = each (λ (l : b.Link). in_chan w outside l.channel_type) links ++ in_parts w vs parts
  in_body w vs (b.Race at rows) = in_branches w vs rows
  in_body w vs (b.Case at a rows) = in_expr w vs a ++ in_case_rows w vs rows
  in_body w vs (b.Identity at x negated y) = []
  in_body w vs (b.Call at x args inputs outputs) = a_process (lower_named w x) at x ++ in_exprs w vs args

  pub in_hcase_rows : World → List Name → b.HcaseRows → List NameFault
  in_hcase_rows w vs b.no_hcase_rows = []
  in_hcase_rows w vs (b.hcase_row_then k body rows) =
      of_protocol (constructor_named w k.name) k.place k.name ++ in_body w vs body ++ in_hcase_rows w vs rows

  pub in_branches : World → List Name → b.Branches → List NameFault
  in_branches w vs b.no_branches = []
  in_branches w vs (b.branch_then channel body rows) = in_body w vs body ++ in_branches w vs rows

  pub in_case_rows : World → List Name → b.CaseRows → List NameFault
  in_case_rows w vs b.no_case_rows = []
  in_case_rows w vs (b.case_row_then p body rows) = in_pattern w p ++ in_body w (bound_in p ++ vs) body ++ in_case_rows w vs rows

  pub in_parts : World → List Name → b.Parts → List NameFault
  in_parts w vs b.no_parts = []
  in_parts w vs (b.part_then header body parts) = in_body w vs body ++ in_parts w vs parts

-- Declarations

-- the name at the end of a protocol's line, or before a coprotocol's type, is that of its heading
abbrev pub is_own : Name → Ident → List NameFault
is_own s x = if same_name s x.name then [] else WrongKind x.place x.name ∷ []

abbrev pub within : List Ident → Ident → Heading
within parameters local = record { parameters = names_of parameters; local = Some local.name }

abbrev pub in_decl : World → d.Decl → List NameFault
in_decl w (d.Data k) =
    each (λ (n : d.DataConstructor). each (in_seq w (record { parameters = names_of k.parameters; local = None })) n.parts) k.constructors
in_decl w (d.Protocol k) =
    each (λ (n : d.ProtocolConstructor). in_chan w (within k.parameters k.local) n.channel_type ++ is_own k.local.name n.local) k.constructors
in_decl w (d.Coprotocol k) =
    each (λ (n : d.CoprotocolConstructor). is_own k.local.name n.local ++ in_chan w (within k.parameters k.local) n.channel_type) k.constructors
in_decl w (d.Function k) =
    let heading : Heading = record { parameters = type_parameters k; local = None } in
    each (in_seq w heading) k.parameters ++ in_seq w heading k.result
    ++ each (λ (r : d.FunctionRow). in_patterns w r.patterns ++ in_expr w (bound_in_all r.patterns) r.value) k.rows
in_decl w (d.Process k) =
    each (in_seq w outside) k.parameters ++ each (in_chan w outside) k.inputs ++ each (in_chan w outside) k.outputs
    ++ in_body w (bound_by_all k.row.variables) k.row.body
