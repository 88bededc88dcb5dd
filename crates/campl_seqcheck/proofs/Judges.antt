-- What judging makes of each node of an expression.
use Rattle.std.proofs.Common.{◌≡◌, ◌∙◌, refl, ap, ℕ, ◌+◌, ℤ, Some, None, option_map, List, map}
use Rattle.campl_tree.specs.declared.place.Place.{Place}
use Rattle.campl_tree.specs.declared.expr.Comparison.{Comparison}
use Rattle.campl_tree.specs.declared.expr.Arithmetic.{Arithmetic}
use Rattle.campl_tree.specs.declared.expr.Expr.{Expr}
use Rattle.campl_tree.specs.declared.expr.Expr.TheVariants as expr
use Rattle.campl_tree.specs.declared.expr.ExprRow.{ExprRow}
use Rattle.campl_tree.specs.Plain.Expr as e
use Rattle.campl_tree.specs.Plain.SeqType.{SeqType}
use Rattle.campl_tree.specs.Plain.SeqType as s
use Rattle.campl_tree.specs.Places.{expr_place}
use Rattle.campl_tree.specs.View.{view_expr, exprs, view_expr_row, expr_rows}
use Rattle.campl_tree.proofs.Views.{view_expr-If, view_expr-Case, view_expr-Or, view_expr-And, view_expr-Compare, view_expr-Cons, view_expr-Append, view_expr-Calculate, view_expr-Negate, view_expr-Number, view_expr-Character, view_expr-Text, view_expr-True, view_expr-False, view_expr-Variable, view_expr-Call, view_expr-CodeOf, view_expr-CharOf, view_expr-Constructor, view_expr-List, view_expr-Pair, view_seq-Int, view_seq-Char, view_seq-Bool}
use Rattle.campl_types.specs.Fits.{Vars}
use Rattle.campl_types.specs.Names.{Name, found}
use Rattle.campl_types.specs.World.{World}
use Rattle.campl_seqcheck.specs.declared.fault.SeqFault.{SeqFault}
use Rattle.campl_seqcheck.specs.Judged.{Judged, Is, Fails, and_then}
use Rattle.campl_seqcheck.specs.Fitting.{item_type}
use Rattle.campl_seqcheck.specs.Judging.{Wanted, judge, meets, variable_type, wanted_item, a_list}
use Rattle.campl_seqcheck.specs.Steps.{judged, judged_rows, judged_if, judged_case, judged_two, judged_compare, judged_cons, judged_append, judged_one, judged_pair, wanted_list, weigh, weight, all_weight, rows_weight}

-- what is wanted of a list is a list type
list-wanted : (at : Place) (wanted : Wanted) (next : Wanted → Judged SeqFault SeqType)
    → and_then (wanted_item at wanted) (λ item. next (option_map s.List item)) ≡ and_then (wanted_list at wanted) next
list-wanted at None next = refl
list-wanted at (Some t) next = go (item_type at t)
  where
    go : (j : Judged SeqFault SeqType) → and_then (and_then j (λ u. Is (Some u))) (λ item. next (option_map s.List item)) ≡ and_then (and_then j (λ u. Is (Some (s.List u)))) next
    go (Is u) = refl
    go (Fails fault) = refl

module _ (w : World) (vs : Vars) (wanted : Wanted) (at : Place) where
  pub judged-If : (c a b : Expr) → judged w vs (view_expr (expr.If at c a b)) wanted ≡ judged_if w vs (view_expr c) (view_expr a) (view_expr b) wanted
  unfolding judged
  judged-If c a b = ap (λ q. judge w vs q wanted) (view_expr-If at c a b)

  pub judged-Case : (a : Expr) (rows : List ExprRow) → judged w vs (view_expr (expr.Case at a rows)) wanted ≡ judged_case at w vs (view_expr a) (expr_rows (map view_expr_row rows)) wanted
  unfolding judged judged_rows
  judged-Case a rows = ap (λ q. judge w vs q wanted) (view_expr-Case at a rows)

  pub judged-Or : (a b : Expr) → judged w vs (view_expr (expr.Or at a b)) wanted ≡ judged_two at w vs (view_expr a) (view_expr b) s.Bool wanted
  unfolding judged
  judged-Or a b = ap (λ q. judge w vs q wanted) (view_expr-Or at a b)

  pub judged-And : (a b : Expr) → judged w vs (view_expr (expr.And at a b)) wanted ≡ judged_two at w vs (view_expr a) (view_expr b) s.Bool wanted
  unfolding judged
  judged-And a b = ap (λ q. judge w vs q wanted) (view_expr-And at a b)

  pub judged-Compare : (a : Expr) (op : Comparison) (b : Expr) → judged w vs (view_expr (expr.Compare at a op b)) wanted ≡ judged_compare at w vs (view_expr a) (view_expr b) wanted
  unfolding judged
  judged-Compare a op b = ap (λ q. judge w vs q wanted) (view_expr-Compare at a op b)

  pub judged-Cons : (a b : Expr) → judged w vs (view_expr (expr.Cons at a b)) wanted ≡ judged_cons at w vs (view_expr a) (view_expr b) wanted
  unfolding judged
  judged-Cons a b = ap (λ q. judge w vs q wanted) (view_expr-Cons at a b)

  pub judged-Append : (a b : Expr) → judged w vs (view_expr (expr.Append at a b)) wanted ≡ judged_append at w vs (view_expr a) (view_expr b) wanted
  unfolding judged
  judged-Append a b = ap (λ q. judge w vs q wanted) (view_expr-Append at a b)
      ∙ list-wanted at wanted (λ list. and_then (judge w vs (view_expr a) list) (λ t. and_then (a_list (expr_place (view_expr a)) t) (λ _. judge w vs (view_expr b) (Some t))))

  pub judged-Calculate : (a : Expr) (op : Arithmetic) (b : Expr) → judged w vs (view_expr (expr.Calculate at a op b)) wanted ≡ judged_two at w vs (view_expr a) (view_expr b) s.Int wanted
  unfolding judged
  judged-Calculate a op b = ap (λ q. judge w vs q wanted) (view_expr-Calculate at a op b)

  pub judged-Negate : (a : Expr) → judged w vs (view_expr (expr.Negate at a)) wanted ≡ judged_one at w vs (view_expr a) s.Int s.Int wanted
  unfolding judged
  judged-Negate a = ap (λ q. judge w vs q wanted) (view_expr-Negate at a)

  pub judged-Number : (n : ℤ) → judged w vs (view_expr (expr.Number at n)) wanted ≡ meets at wanted s.Int
  unfolding judged
  judged-Number n = ap (λ q. judge w vs q wanted) (view_expr-Number at n)

  pub judged-Character : (n : ℕ) → judged w vs (view_expr (expr.Character at n)) wanted ≡ meets at wanted s.Char
  unfolding judged
  judged-Character n = ap (λ q. judge w vs q wanted) (view_expr-Character at n)

  pub judged-Text : (text : List ℕ) → judged w vs (view_expr (expr.Text at text)) wanted ≡ meets at wanted (s.List s.Char)
  unfolding judged
  judged-Text text = ap (λ q. judge w vs q wanted) (view_expr-Text at text)

  pub judged-True : judged w vs (view_expr (expr.True at)) wanted ≡ meets at wanted s.Bool
  unfolding judged
  judged-True = ap (λ q. judge w vs q wanted) (view_expr-True at)

  pub judged-False : judged w vs (view_expr (expr.False at)) wanted ≡ meets at wanted s.Bool
  unfolding judged
  judged-False = ap (λ q. judge w vs q wanted) (view_expr-False at)

  pub judged-Variable : (x : Name) → judged w vs (view_expr (expr.Variable at x)) wanted ≡ and_then (variable_type at (found x vs)) (meets at wanted)
  unfolding judged
  judged-Variable x = ap (λ q. judge w vs q wanted) (view_expr-Variable at x)

  pub judged-Call : (x : Name) (args : List Expr) → judged w vs (view_expr (expr.Call at x args)) wanted ≡ judged w vs (e.Call at x (exprs (map view_expr args))) wanted
  unfolding judged
  judged-Call x args = ap (λ q. judge w vs q wanted) (view_expr-Call at x args)

  pub judged-CodeOf : (a : Expr) → judged w vs (view_expr (expr.CodeOf at a)) wanted ≡ judged_one at w vs (view_expr a) s.Char s.Int wanted
  unfolding judged
  judged-CodeOf a = ap (λ q. judge w vs q wanted) (view_expr-CodeOf at a)

  pub judged-CharOf : (a : Expr) → judged w vs (view_expr (expr.CharOf at a)) wanted ≡ judged_one at w vs (view_expr a) s.Int s.Char wanted
  unfolding judged
  judged-CharOf a = ap (λ q. judge w vs q wanted) (view_expr-CharOf at a)

  pub judged-Constructor : (x : Name) (args : List Expr) → judged w vs (view_expr (expr.Constructor at x args)) wanted ≡ judged w vs (e.Constructor at x (exprs (map view_expr args))) wanted
  unfolding judged
  judged-Constructor x args = ap (λ q. judge w vs q wanted) (view_expr-Constructor at x args)

  pub judged-List : (args : List Expr) → judged w vs (view_expr (expr.List at args)) wanted ≡ judged w vs (e.List at (exprs (map view_expr args))) wanted
  unfolding judged
  judged-List args = ap (λ q. judge w vs q wanted) (view_expr-List at args)

  pub judged-Pair : (a b : Expr) → judged w vs (view_expr (expr.Pair at a b)) wanted ≡ judged_pair at w vs (view_expr a) (view_expr b) wanted
  unfolding judged
  judged-Pair a b = ap (λ q. judge w vs q wanted) (view_expr-Pair at a b)

-- how much there is to judge of it

pub weight-If : (at : Place) (c a b : Expr) → weight (view_expr (expr.If at c a b)) ≡ 1 + weight (view_expr c) + weight (view_expr a) + weight (view_expr b)
unfolding weight
weight-If at c a b = ap weigh (view_expr-If at c a b)

pub weight-Case : (at : Place) (a : Expr) (rows : List ExprRow) → weight (view_expr (expr.Case at a rows)) ≡ 1 + weight (view_expr a) + rows_weight (expr_rows (map view_expr_row rows))
unfolding weight rows_weight
weight-Case at a rows = ap weigh (view_expr-Case at a rows)

pub weight-Or : (at : Place) (a b : Expr) → weight (view_expr (expr.Or at a b)) ≡ 1 + weight (view_expr a) + weight (view_expr b)
unfolding weight
weight-Or at a b = ap weigh (view_expr-Or at a b)

pub weight-And : (at : Place) (a b : Expr) → weight (view_expr (expr.And at a b)) ≡ 1 + weight (view_expr a) + weight (view_expr b)
unfolding weight
weight-And at a b = ap weigh (view_expr-And at a b)

pub weight-Compare : (at : Place) (a : Expr) (op : Comparison) (b : Expr) → weight (view_expr (expr.Compare at a op b)) ≡ 1 + weight (view_expr a) + weight (view_expr b)
unfolding weight
weight-Compare at a op b = ap weigh (view_expr-Compare at a op b)

pub weight-Cons : (at : Place) (a b : Expr) → weight (view_expr (expr.Cons at a b)) ≡ 1 + weight (view_expr a) + weight (view_expr b)
unfolding weight
weight-Cons at a b = ap weigh (view_expr-Cons at a b)

pub weight-Append : (at : Place) (a b : Expr) → weight (view_expr (expr.Append at a b)) ≡ 1 + weight (view_expr a) + weight (view_expr b)
unfolding weight
weight-Append at a b = ap weigh (view_expr-Append at a b)

pub weight-Calculate : (at : Place) (a : Expr) (op : Arithmetic) (b : Expr) → weight (view_expr (expr.Calculate at a op b)) ≡ 1 + weight (view_expr a) + weight (view_expr b)
unfolding weight
weight-Calculate at a op b = ap weigh (view_expr-Calculate at a op b)

pub weight-Negate : (at : Place) (a : Expr) → weight (view_expr (expr.Negate at a)) ≡ 1 + weight (view_expr a)
unfolding weight
weight-Negate at a = ap weigh (view_expr-Negate at a)

pub weight-Call : (at : Place) (x : Name) (args : List Expr) → weight (view_expr (expr.Call at x args)) ≡ 1 + all_weight (exprs (map view_expr args))
unfolding weight all_weight
weight-Call at x args = ap weigh (view_expr-Call at x args)

pub weight-CodeOf : (at : Place) (a : Expr) → weight (view_expr (expr.CodeOf at a)) ≡ 1 + weight (view_expr a)
unfolding weight
weight-CodeOf at a = ap weigh (view_expr-CodeOf at a)

pub weight-CharOf : (at : Place) (a : Expr) → weight (view_expr (expr.CharOf at a)) ≡ 1 + weight (view_expr a)
unfolding weight
weight-CharOf at a = ap weigh (view_expr-CharOf at a)

pub weight-Constructor : (at : Place) (x : Name) (args : List Expr) → weight (view_expr (expr.Constructor at x args)) ≡ 1 + all_weight (exprs (map view_expr args))
unfolding weight all_weight
weight-Constructor at x args = ap weigh (view_expr-Constructor at x args)

pub weight-List : (at : Place) (args : List Expr) → weight (view_expr (expr.List at args)) ≡ 1 + all_weight (exprs (map view_expr args))
unfolding weight all_weight
weight-List at args = ap weigh (view_expr-List at args)

pub weight-Pair : (at : Place) (a b : Expr) → weight (view_expr (expr.Pair at a b)) ≡ 1 + weight (view_expr a) + weight (view_expr b)
unfolding weight
weight-Pair at a b = ap weigh (view_expr-Pair at a b)

pub ruleset nodes = (judged-If, judged-Case, judged-Or, judged-And, judged-Compare, judged-Cons, judged-Append, judged-Calculate, judged-Negate, judged-Number, judged-Character, judged-Text, judged-True, judged-False, judged-Variable, judged-Call, judged-CodeOf, judged-CharOf, judged-Constructor, judged-List, judged-Pair, view_seq-Int, view_seq-Char, view_seq-Bool)

pub ruleset weights = (weight-If, weight-Case, weight-Or, weight-And, weight-Compare, weight-Cons, weight-Append, weight-Calculate, weight-Negate, weight-Call, weight-CodeOf, weight-CharOf, weight-Constructor, weight-List, weight-Pair)
