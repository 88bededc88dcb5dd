-- Judging in the steps that code takes. The words of Fitting and Judging are kept closed here, so that a
-- proof about code sees each node's own equation and not the whole definition; `proofs/Nodes` has them.
use Rattle.std.specs.Prelude.{Bool as Truth, true, false, ℕ, ◌+◌, List, [], ◌∷◌, ◌++◌, Option, Some, None, if◌then◌else◌, length}
use Rattle.campl_tree.specs.declared.place.Place.{Place}
use Rattle.campl_tree.specs.Plain.SeqType.{SeqType, Bool}
use Rattle.campl_tree.specs.Plain.SeqType as s
use Rattle.campl_tree.specs.Plain.Pattern.{Pattern, Patterns}
use Rattle.campl_tree.specs.Plain.Expr as e
use Rattle.campl_tree.specs.Plain.Expr.{Expr, Exprs, ExprRows}
use Rattle.campl_types.specs.Names.{Name}
use Rattle.campl_types.specs.Values.{parts_at}
use Rattle.campl_tree.specs.View.{view_seq, view_function, view_data_constructor}
use Rattle.campl_types.specs.Substitution.{Filling, filled, variables_of}
use Rattle.campl_types.specs.Fits.{Vars}
use Rattle.campl_types.specs.World.{World, names_of, type_parameters, ConstructorEntry, OfData, OfProtocol, OfCoprotocol}
use Rattle.campl_seqcheck.specs.declared.fault.SeqFault.{SeqFault}
use Rattle.campl_seqcheck.specs.declared.fault.SeqFault.TheVariants.{NeedsType}
use Rattle.campl_seqcheck.specs.declared.callee.Callee.{Callee}
use Rattle.campl_seqcheck.specs.declared.callee.Callee.TheVariants as callee
use Rattle.campl_seqcheck.specs.Judged.{Judged, Is, Fails, Fine, and_then}
use Rattle.campl_seqcheck.specs.Fitting.{counted, item_type, fit, fit_each, fit_all, arguments_of}
use Rattle.campl_seqcheck.specs.Judging.{Wanted, judge, judge_each, judge_parts, judge_rows, judge_more, case_rows, meets, wanted_item, wanted_parts, a_list, a_comparable, called, found_so, count_of}
use Rattle.campl_types.specs.Sequential.{whole}
use Rattle.campl_seqcheck.specs.RowPatterns.{row_fits, judge_match}
use Rattle.campl_tree.specs.Plain.Decl.{DataDecl, DataConstructor}
use Rattle.campl_matching.specs.Matching.{is_known, matched}
use Rattle.campl_tree.specs.Places.{expr_place}

-- Patterns

unfoldable pub fitted : World → Vars → Pattern → SeqType → Judged SeqFault Vars
fitted = fit

unfoldable pub fitted_each : World → Vars → Patterns → SeqType → Judged SeqFault Vars
fitted_each = fit_each

unfoldable pub fitted_all : World → Vars → Patterns → List SeqType → Judged SeqFault Vars
fitted_all = fit_all

unfoldable pub fitted_row : World → List SeqType → Place → Patterns → Judged SeqFault Vars
fitted_row = row_fits

-- the types of a constructor's parts, where so many parts stand and the whole has this type
abbrev pub part_types : Place → Option ConstructorEntry → (parts : ℕ) → SeqType → Judged SeqFault (List SeqType)
part_types at (Some (OfData d n k)) parts t =
    and_then (counted at parts (length k.parts)) (λ _. and_then (arguments_of at d t) (λ ts. Is (parts_at d ts k)))
part_types at (Some (OfProtocol d n k)) parts t = Fails (NeedsType at)
part_types at (Some (OfCoprotocol d n k)) parts t = Fails (NeedsType at)
part_types at None parts t = Fails (NeedsType at)

-- What is wanted

-- of a list, where only a list type may be
abbrev pub wanted_list : Place → Wanted → Judged SeqFault Wanted
wanted_list at None = Is None
wanted_list at (Some t) = and_then (item_type at t) (λ u. Is (Some (s.List u)))

abbrev pub is_char : SeqType → Truth
is_char s.Char = true
is_char _ = false

abbrev pub is_comparable : SeqType → Truth
is_comparable s.Int = true
is_comparable s.Char = true
is_comparable s.Bool = true
is_comparable (s.List t) = is_char t
is_comparable _ = false

-- Calls

-- what is called: a function, or a constructor of a data type that is this type
abbrev pub parameters_of : Callee → List Name
parameters_of (callee.Function f) = type_parameters (view_function f.now)
parameters_of (callee.Constructor whole k) = variables_of (view_seq whole.now)

abbrev pub types_of : Callee → List SeqType
types_of (callee.Function f) = (view_function f.now).parameters
types_of (callee.Constructor whole k) = (view_data_constructor k.now).parts

abbrev pub result_of : Callee → SeqType
result_of (callee.Function f) = (view_function f.now).result
result_of (callee.Constructor whole k) = view_seq whole.now

-- Expressions

unfoldable pub judged : World → Vars → Expr → Wanted → Judged SeqFault SeqType
judged = judge

unfoldable pub judged_each : World → Vars → Exprs → SeqType → Judged SeqFault Fine
judged_each = judge_each

unfoldable pub judged_parts : World → Vars → Filling → List SeqType → Exprs → Judged SeqFault Filling
judged_parts = judge_parts

unfoldable pub judged_rows : Place → World → Vars → ExprRows → SeqType → Wanted → Judged SeqFault SeqType
judged_rows = judge_rows

unfoldable pub judged_more : World → Vars → ExprRows → SeqType → SeqType → Judged SeqFault Fine
judged_more = judge_more

-- `[a, ..]`, `a : b`, `a ++ b` and `(a, b)`
abbrev pub judged_items : Place → World → Vars → Expr → Exprs → Wanted → Judged SeqFault SeqType
judged_items at w vs a rest wanted =
    and_then (wanted_item at wanted) (λ item. and_then (judged w vs a item) (λ t. and_then (judged_each w vs rest t) (λ _. Is (s.List t))))

abbrev pub judged_cons : Place → World → Vars → (a b : Expr) → Wanted → Judged SeqFault SeqType
judged_cons at w vs a b wanted =
    and_then (wanted_item at wanted) (λ item. and_then (judged w vs a item) (λ t. judged w vs b (Some (s.List t))))

abbrev pub judged_append : Place → World → Vars → (a b : Expr) → Wanted → Judged SeqFault SeqType
judged_append at w vs a b wanted =
    and_then (wanted_list at wanted) (λ list. and_then (judged w vs a list) (λ t. and_then (a_list (expr_place a) t) (λ _. judged w vs b (Some t))))

abbrev pub judged_pair : Place → World → Vars → (a b : Expr) → Wanted → Judged SeqFault SeqType
judged_pair at w vs a b wanted =
    and_then (wanted_parts at wanted) (λ parts. and_then (judged w vs a parts.0) (λ t. and_then (judged w vs b parts.1) (λ u. Is (s.Pair t u))))

-- `if c then a else b`, and `case a of` with its rows
abbrev pub judged_if : World → Vars → (c a b : Expr) → Wanted → Judged SeqFault SeqType
judged_if w vs c a b wanted =
    and_then (judged w vs c (Some s.Bool)) (λ _. and_then (judged w vs a wanted) (λ t. judged w vs b (Some t)))

abbrev pub judged_case : Place → World → Vars → Expr → ExprRows → Wanted → Judged SeqFault SeqType
judged_case at w vs a rows wanted =
    and_then (judged w vs a None) (λ t. and_then (judge_match at w (t ∷ []) (case_rows at rows)) (λ _. judged_rows at w vs rows t wanted))

-- an operator's operands: compared, two of one type, and one
abbrev pub judged_compare : Place → World → Vars → (a b : Expr) → Wanted → Judged SeqFault SeqType
judged_compare at w vs a b wanted =
    and_then (judged w vs a None) (λ t. and_then (a_comparable (expr_place a) t) (λ _. and_then (judged w vs b (Some t)) (λ _. meets at wanted s.Bool)))

abbrev pub judged_two : Place → World → Vars → (a b : Expr) → (own : SeqType) → Wanted → Judged SeqFault SeqType
judged_two at w vs a b own wanted = and_then (judged w vs a (Some own)) (λ _. and_then (judged w vs b (Some own)) (λ _. meets at wanted own))

abbrev pub judged_one : Place → World → Vars → Expr → (operand result : SeqType) → Wanted → Judged SeqFault SeqType
judged_one at w vs a operand result wanted = and_then (judged w vs a (Some operand)) (λ _. meets at wanted result)

-- a call of this function or constructor
abbrev pub judged_call : Place → World → Vars → Callee → Exprs → Wanted → Judged SeqFault SeqType
judged_call at w vs c args wanted =
    called at (parameters_of c) (count_of args) (types_of c) (result_of c) wanted (λ start. judged_parts w vs start (types_of c) args)

abbrev pub judged_data : Place → World → Vars → DataDecl → DataConstructor → Exprs → Wanted → Judged SeqFault SeqType
judged_data at w vs d k args wanted =
    called at (names_of d.parameters) (count_of args) k.parts (whole d) wanted (λ start. judged_parts w vs start k.parts args)

-- a part of a call with its declared type: what the parameters stand for behind it
abbrev pub judged_part : World → Vars → Filling → SeqType → Expr → Judged SeqFault Filling
judged_part w vs fill t a =
    if is_known fill t
    then and_then (judged w vs a (Some (filled fill t))) (λ _. Is fill)
    else and_then (judged w vs a None) (λ u. found_so (expr_place a) fill t u (matched fill t u))

-- a row, whose pattern fits the first type
abbrev pub judged_row : World → Vars → Pattern × Expr → SeqType → Wanted → Judged SeqFault SeqType
judged_row w vs row t wanted = and_then (fitted w [] row.0 t) (λ xs. judged w (xs ++ vs) row.1 wanted)

abbrev pub judged_first_row : World → Vars → Pattern × Expr → ExprRows → SeqType → Wanted → Judged SeqFault SeqType
judged_first_row w vs row more t wanted = and_then (judged_row w vs row t wanted) (λ u. and_then (judged_more w vs more t u) (λ _. Is u))

-- How much there is to judge: each step goes on with less

abbrev mutual
  pub weigh : Expr → ℕ
  weigh (e.If at c a b) = 1 + weigh c + weigh a + weigh b
  weigh (e.Case at a rows) = 1 + weigh a + weigh_rows rows
  weigh (e.Or at a b) = 1 + weigh a + weigh b
  weigh (e.And at a b) = 1 + weigh a + weigh b
  weigh (e.Compare at a op b) = 1 + weigh a + weigh b
  weigh (e.Cons at a b) = 1 + weigh a + weigh b
  weigh (e.Append at a b) = 1 + weigh a + weigh b
  weigh (e.Calculate at a op b) = 1 + weigh a + weigh b
  weigh (e.Negate at a) = 1 + weigh a
  weigh (e.Number at n) = 1
  weigh (e.Character at c) = 1
  weigh (e.Text at text) = 1
  weigh (e.True at) = 1
  weigh (e.False at) = 1
  weigh (e.Variable at x) = 1
  weigh (e.Call at x args) = 1 + weigh_all args
  weigh (e.CodeOf at a) = 1 + weigh a
  weigh (e.CharOf at a) = 1 + weigh a
  weigh (e.Constructor at x args) = 1 + weigh_all args
  weigh (e.List at args) = 1 + weigh_all args
  weigh (e.Pair at a b) = 1 + weigh a + weigh b

  pub weigh_all : Exprs → ℕ
  weigh_all e.no_exprs = 0
  weigh_all (e.expr_then a rest) = weigh a + weigh_all rest

  pub weigh_rows : ExprRows → ℕ
  weigh_rows e.no_expr_rows = 0
  weigh_rows (e.expr_row_then p a rows) = weigh a + weigh_rows rows

unfoldable pub weight : Expr → ℕ
weight = weigh

unfoldable pub all_weight : Exprs → ℕ
all_weight = weigh_all

unfoldable pub rows_weight : ExprRows → ℕ
rows_weight = weigh_rows
