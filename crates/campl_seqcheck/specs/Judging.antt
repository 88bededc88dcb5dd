-- Expressions judged, each in the order in which its parts are: the type, or the first fault. An expression
-- is found to have a type where none is wanted of it, and checked where one is.
use Rattle.std.specs.Prelude.{ℕ, suc, List, [], ◌∷◌, ◌++◌, Option, Some, None, if◌then◌else◌, codes, length, option_map}
use Rattle.campl_tree.specs.declared.place.Place.{Place}
use Rattle.campl_tree.specs.Places.{expr_place}
use Rattle.campl_tree.specs.Plain.SeqType.{SeqType, Int, Char, Bool, Named, Variable}
use Rattle.campl_tree.specs.Plain.SeqType as s
use Rattle.campl_tree.specs.Plain.Expr as e
use Rattle.campl_tree.specs.Plain.Expr.{Expr, Exprs, ExprRows}
use Rattle.campl_tree.specs.Plain.Decl.{FunctionDecl}
use Rattle.campl_tree.specs.Plain.Pattern.{no_patterns, pattern_then}
use Rattle.campl_types.specs.Names.{Name, found, all_among}
use Rattle.campl_types.specs.Substitution.{Filling, filled}
use Rattle.campl_types.specs.SameTest.{same_seq}
use Rattle.campl_types.specs.Sequential.{whole}
use Rattle.campl_types.specs.Fits.{Vars}
use Rattle.campl_types.specs.World.{World, ConstructorEntry, OfData, OfProtocol, OfCoprotocol, constructor_named, function_named, names_of, type_parameters}
use Rattle.campl_shown.specs.Types.{type_text, type_text_at}
use Rattle.campl_seqcheck.specs.declared.fault.SeqFault.{SeqFault}
use Rattle.campl_seqcheck.specs.declared.fault.SeqFault.TheVariants.{TypeDiffers, NeedsType}
use Rattle.campl_seqcheck.specs.Judged.{Judged, Is, Fails, Fine, fine, and_then}
use Rattle.campl_matching.specs.Matching.{bound_names, is_known, matched}
use Rattle.campl_seqcheck.specs.Fitting.{counted, item_type, pair_types, fit}
use Rattle.campl_seqcheck.specs.RowPatterns.{MatchRow, bare_row, judge_match}

-- the type that is wanted, if one is
abbrev pub Wanted : Type 0
Wanted = Option SeqType

-- an expression of this type, compared with the type that is wanted
abbrev pub meets : Place → Wanted → SeqType → Judged SeqFault SeqType
meets at None u = Is u
meets at (Some t) u = if same_seq u t then Is u else Fails (TypeDiffers at (type_text u) (type_text t))

-- Lists and pairs

abbrev given : {A : Type 0} → A → Judged SeqFault (Option A)
given x = Is (Some x)

-- what is wanted of a list's elements
abbrev pub wanted_item : Place → Wanted → Judged SeqFault Wanted
wanted_item at None = Is None
wanted_item at (Some t) = and_then (item_type at t) given

-- what is wanted of a pair's parts
abbrev pub wanted_parts : Place → Wanted → Judged SeqFault (Wanted × Wanted)
wanted_parts at None = Is (None, None)
wanted_parts at (Some t) = and_then (pair_types at t) (λ u. Is (Some u.0, Some u.1))

abbrev pub empty_list : Place → Wanted → Judged SeqFault SeqType
empty_list at None = Fails (NeedsType at)
empty_list at (Some t) = and_then (item_type at t) (λ u. Is (s.List u))

-- what stands before a `++` has a list type
abbrev pub a_list : Place → SeqType → Judged SeqFault Fine
a_list at (s.List t) = Is fine
a_list at t = Fails (TypeDiffers at (type_text t) (codes "[_]"))

-- what stands before a comparison has a type whose values can be compared
abbrev pub a_comparable : Place → SeqType → Judged SeqFault Fine
a_comparable at Int = Is fine
a_comparable at Char = Is fine
a_comparable at Bool = Is fine
a_comparable at (s.List Char) = Is fine
a_comparable at t = Fails (TypeDiffers at (type_text t) (codes "Int, Char, Bool or [Char]"))

-- Variables

-- a variable that isn't known: names are judged before, so it is in no well declared source
abbrev pub variable_type : Place → Option SeqType → Judged SeqFault SeqType
variable_type at (Some t) = Is t
variable_type at None = Fails (NeedsType at)

-- Calls

abbrev pub no_match : {A : Type 0} → Place → Filling → (declared t : SeqType) → Judged SeqFault A
no_match at fill declared t = Fails (TypeDiffers at (type_text_at fill declared) (type_text t))

abbrev pub begun_so : Place → (result t : SeqType) → Option Filling → Judged SeqFault Filling
begun_so at result t None = no_match at [] result t
begun_so at result t (Some fill) = Is fill

-- what the parameters stand for before the parts are judged; a call without parameters is compared when it is found
abbrev pub begun : Place → List Name → (result : SeqType) → Wanted → Judged SeqFault Filling
begun at [] result wanted = Is []
begun at (x ∷ xs) result None = Is []
begun at (x ∷ xs) result (Some t) = begun_so at result t (matched [] result t)

-- a part's type that was found, matched against its declared type
abbrev pub found_so : Place → Filling → (declared t : SeqType) → Option Filling → Judged SeqFault Filling
found_so at fill declared t None = Fails (TypeDiffers at (type_text t) (type_text_at fill declared))
found_so at fill declared t (Some next) = Is next

-- in the end each parameter stands for something
abbrev pub all_bound : Place → List Name → Filling → Judged SeqFault Fine
all_bound at parameters fill = if all_among parameters (bound_names fill) then Is fine else Fails (NeedsType at)

abbrev pub called : Place → List Name → (number : ℕ) → List SeqType → (result : SeqType) → Wanted → (Filling → Judged SeqFault Filling) → Judged SeqFault SeqType
called at parameters number types result wanted judge_parts =
    and_then (counted at number (length types)) (λ _. and_then (begun at parameters result wanted) (λ start. and_then (judge_parts start) (λ fill.
    and_then (all_bound at parameters fill) (λ _. meets at wanted (filled fill result)))))

-- a name of no function or of no data type's constructor is in no well declared source
abbrev pub called_function : Place → Option FunctionDecl → (number : ℕ) → Wanted → (List SeqType → Filling → Judged SeqFault Filling) → Judged SeqFault SeqType
called_function at (Some f) number wanted judge_parts = called at (type_parameters f) number f.parameters f.result wanted (judge_parts f.parameters)
called_function at None number wanted judge_parts = Fails (NeedsType at)

abbrev pub called_constructor : Place → Option ConstructorEntry → (number : ℕ) → Wanted → (List SeqType → Filling → Judged SeqFault Filling) → Judged SeqFault SeqType
called_constructor at (Some (OfData d n k)) number wanted judge_parts =
    called at (names_of d.parameters) number k.parts (whole d) wanted (judge_parts k.parts)
called_constructor at (Some (OfProtocol d n k)) number wanted judge_parts = Fails (NeedsType at)
called_constructor at (Some (OfCoprotocol d n k)) number wanted judge_parts = Fails (NeedsType at)
called_constructor at None number wanted judge_parts = Fails (NeedsType at)

-- Rows

-- the rows of a `case`, behind whose patterns nothing is judged yet
abbrev pub case_rows : Place → ExprRows → List MatchRow
case_rows at e.no_expr_rows = []
case_rows at (e.expr_row_then p a rows) = bare_row at (pattern_then p no_patterns) ∷ case_rows at rows

-- Expressions

abbrev pub count_of : Exprs → ℕ
count_of e.no_exprs = 0
count_of (e.expr_then a rest) = suc (count_of rest)

abbrev mutual
  pub judge : World → Vars → Expr → Wanted → Judged SeqFault SeqType
  judge w vs (e.Number at n) wanted = meets at wanted Int
  judge w vs (e.Character at c) wanted = meets at wanted Char
  judge w vs (e.Text at text) wanted = meets at wanted (s.List Char)
  judge w vs (e.True at) wanted = meets at wanted Bool
  judge w vs (e.False at) wanted = meets at wanted Bool
  judge w vs (e.Variable at x) wanted = and_then (variable_type at (found x vs)) (meets at wanted)
  judge w vs (e.List at e.no_exprs) wanted = empty_list at wanted
  judge w vs (e.List at (e.expr_then a rest)) wanted =
      and_then (wanted_item at wanted) (λ item. and_then (judge w vs a item) (λ t. and_then (judge_each w vs rest t) (λ _. Is (s.List t))))
  judge w vs (e.Cons at a b) wanted =
      and_then (wanted_item at wanted) (λ item. and_then (judge w vs a item) (λ t. judge w vs b (Some (s.List t))))
  judge w vs (e.Append at a b) wanted =
      and_then (wanted_item at wanted) (λ item. and_then (judge w vs a (option_map s.List item)) (λ t.
      and_then (a_list (expr_place a) t) (λ _. judge w vs b (Some t))))
  judge w vs (e.Pair at a b) wanted =
      and_then (wanted_parts at wanted) (λ parts. and_then (judge w vs a parts.0) (λ t. and_then (judge w vs b parts.1) (λ u. Is (s.Pair t u))))
  judge w vs (e.If at c a b) wanted =
      and_then (judge w vs c (Some Bool)) (λ _. and_then (judge w vs a wanted) (λ t. judge w vs b (Some t)))
  judge w vs (e.Case at a rows) wanted =
      and_then (judge w vs a None) (λ t. and_then (judge_match at w (t ∷ []) (case_rows at rows)) (λ _. judge_rows at w vs rows t wanted))
  judge w vs (e.Compare at a op b) wanted =
      and_then (judge w vs a None) (λ t. and_then (a_comparable (expr_place a) t) (λ _. and_then (judge w vs b (Some t)) (λ _. meets at wanted Bool)))
  judge w vs (e.Or at a b) wanted = and_then (judge w vs a (Some Bool)) (λ _. and_then (judge w vs b (Some Bool)) (λ _. meets at wanted Bool))
  judge w vs (e.And at a b) wanted = and_then (judge w vs a (Some Bool)) (λ _. and_then (judge w vs b (Some Bool)) (λ _. meets at wanted Bool))
  judge w vs (e.Calculate at a op b) wanted = and_then (judge w vs a (Some Int)) (λ _. and_then (judge w vs b (Some Int)) (λ _. meets at wanted Int))
  judge w vs (e.Negate at a) wanted = and_then (judge w vs a (Some Int)) (λ _. meets at wanted Int)
  judge w vs (e.CodeOf at a) wanted = and_then (judge w vs a (Some Char)) (λ _. meets at wanted Int)
  judge w vs (e.CharOf at a) wanted = and_then (judge w vs a (Some Int)) (λ _. meets at wanted Char)
  judge w vs (e.Call at x args) wanted =
      called_function at (function_named w x) (count_of args) wanted (λ types start. judge_parts w vs start types args)
  judge w vs (e.Constructor at x args) wanted =
      called_constructor at (constructor_named w x) (count_of args) wanted (λ types start. judge_parts w vs start types args)

  -- elements of one type
  pub judge_each : World → Vars → Exprs → SeqType → Judged SeqFault Fine
  judge_each w vs e.no_exprs t = Is fine
  judge_each w vs (e.expr_then a rest) t = and_then (judge w vs a (Some t)) (λ _. judge_each w vs rest t)

  -- the parts of a call, one for each type: checked where each parameter of its type stands for something, and found otherwise
  pub judge_parts : World → Vars → Filling → List SeqType → Exprs → Judged SeqFault Filling
  judge_parts w vs fill [] args = Is fill
  judge_parts w vs fill (t ∷ ts) e.no_exprs = Is fill
  judge_parts w vs fill (t ∷ ts) (e.expr_then a rest) =
      if is_known fill t
      then and_then (judge w vs a (Some (filled fill t))) (λ _. judge_parts w vs fill ts rest)
      else and_then (judge w vs a None) (λ u. and_then (found_so (expr_place a) fill t u (matched fill t u)) (λ next. judge_parts w vs next ts rest))

  -- the values of rows whose patterns fit the first type: the first as is wanted, the others like it
  pub judge_rows : Place → World → Vars → ExprRows → SeqType → Wanted → Judged SeqFault SeqType
  judge_rows at w vs e.no_expr_rows t wanted = Fails (NeedsType at)
  judge_rows at w vs (e.expr_row_then p a rows) t wanted =
      and_then (fit w [] p t) (λ xs. and_then (judge w (xs ++ vs) a wanted) (λ u. and_then (judge_more w vs rows t u) (λ _. Is u)))

  pub judge_more : World → Vars → ExprRows → SeqType → SeqType → Judged SeqFault Fine
  judge_more w vs e.no_expr_rows t u = Is fine
  judge_more w vs (e.expr_row_then p a rows) t u =
      and_then (fit w [] p t) (λ xs. and_then (judge w (xs ++ vs) a (Some u)) (λ _. judge_more w vs rows t u))

-- whether an expression may be checked against a type, where what is found isn't asked for
abbrev pub checked : World → Vars → Expr → SeqType → Judged SeqFault Fine
checked w vs a t = and_then (judge w vs a (Some t)) (λ _. Is fine)
