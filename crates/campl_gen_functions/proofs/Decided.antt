-- The decisions of each node of an expression.
use Rattle.std.proofs.Common.{◌≡◌, ◌∙◌, refl, sym, ap, ℕ, ℤ, ◌+◌, ◌<◌, ◌≤◌, List, [], ◌∷◌, ◌++◌, map, drop, get_or, length, append_assoc}
use Rattle.std.proofs.lemmas.List.{drop_all, append-nil, map_push, length-map}
use Rattle.campl_tree.specs.declared.place.Place.{Place}
use Rattle.campl_tree.specs.declared.expr.Comparison.{Comparison}
use Rattle.campl_tree.specs.declared.expr.Arithmetic.{Arithmetic}
use Rattle.campl_tree.specs.declared.expr.Expr.{Expr}
use Rattle.campl_tree.specs.declared.expr.Expr.TheVariants as expr
use Rattle.campl_tree.specs.declared.expr.ExprRow.{ExprRow}
use Rattle.campl_tree.specs.declared.decl.FunctionRow.{FunctionRow}
use Rattle.campl_tree.specs.Plain.Expr as e
use Rattle.campl_tree.specs.Plain.Pattern.{Pattern, pattern_then, no_patterns}
use Rattle.campl_tree.specs.View.{view_expr, exprs, view_expr_row, expr_rows, view_pattern, patterns, view_function_row}
use Rattle.campl_tree.proofs.Views.{view_expr_row-out, view_expr-If, view_expr-Case, view_expr-Or, view_expr-And, view_expr-Compare, view_expr-Cons, view_expr-Append, view_expr-Calculate, view_expr-Negate, view_expr-Number, view_expr-Character, view_expr-Text, view_expr-True, view_expr-False, view_expr-Variable, view_expr-Call, view_expr-CodeOf, view_expr-CharOf, view_expr-Constructor, view_expr-List, view_expr-Pair}
use Rattle.campl_types.specs.Forms.{Form, list_of, part_forms}
use Rattle.campl_types.specs.Names.{Name}
use Rattle.campl_types.specs.Sequential.{expr_rows as forms_of_rows, function_rows}
use Rattle.campl_types.specs.World.{World}
use Rattle.campl_code.specs.CaseDecisions.{decisions_of, decisions_of_all, decisions_of_rows, decisions_of_function_rows}
use Rattle.campl_code.specs.Decisions.{Decision}
use Rattle.campl_seqcheck.proofs.Answered.{drop-at}
use Rattle.campl_gen_functions.specs.Deciding.{decided, decided_all, decided_rows, decided_two, decided_three, decided_case}

pub ruleset appends = (append_assoc, append-nil, map_push)

module _ (w : World) (at : Place) where
  pub decided-If : (a b c : Expr) → decided w (view_expr (expr.If at a b c)) ≡ decided_three w (view_expr a) (view_expr b) (view_expr c)
  unfolding decided decided_all decided_rows
  decided-If a b c = ap (decisions_of w) (view_expr-If at a b c)

  pub decided-Case : (a : Expr) (rows : List ExprRow) → decided w (view_expr (expr.Case at a rows)) ≡ decided_case w (view_expr a) (expr_rows (map view_expr_row rows))
  unfolding decided decided_all decided_rows
  decided-Case a rows = ap (decisions_of w) (view_expr-Case at a rows)

  pub decided-Or : (a b : Expr) → decided w (view_expr (expr.Or at a b)) ≡ decided_two w (view_expr a) (view_expr b)
  unfolding decided decided_all decided_rows
  decided-Or a b = ap (decisions_of w) (view_expr-Or at a b)

  pub decided-And : (a b : Expr) → decided w (view_expr (expr.And at a b)) ≡ decided_two w (view_expr a) (view_expr b)
  unfolding decided decided_all decided_rows
  decided-And a b = ap (decisions_of w) (view_expr-And at a b)

  pub decided-Compare : (a : Expr) (op : Comparison) (b : Expr) → decided w (view_expr (expr.Compare at a op b)) ≡ decided_two w (view_expr a) (view_expr b)
  unfolding decided decided_all decided_rows
  decided-Compare a op b = ap (decisions_of w) (view_expr-Compare at a op b)

  pub decided-Cons : (a b : Expr) → decided w (view_expr (expr.Cons at a b)) ≡ decided_two w (view_expr a) (view_expr b)
  unfolding decided decided_all decided_rows
  decided-Cons a b = ap (decisions_of w) (view_expr-Cons at a b)

  pub decided-Append : (a b : Expr) → decided w (view_expr (expr.Append at a b)) ≡ decided_two w (view_expr a) (view_expr b)
  unfolding decided decided_all decided_rows
  decided-Append a b = ap (decisions_of w) (view_expr-Append at a b)

  pub decided-Calculate : (a : Expr) (op : Arithmetic) (b : Expr) → decided w (view_expr (expr.Calculate at a op b)) ≡ decided_two w (view_expr a) (view_expr b)
  unfolding decided decided_all decided_rows
  decided-Calculate a op b = ap (decisions_of w) (view_expr-Calculate at a op b)

  pub decided-Pair : (a b : Expr) → decided w (view_expr (expr.Pair at a b)) ≡ decided_two w (view_expr a) (view_expr b)
  unfolding decided decided_all decided_rows
  decided-Pair a b = ap (decisions_of w) (view_expr-Pair at a b)

  pub decided-Negate : (a : Expr) → decided w (view_expr (expr.Negate at a)) ≡ decided w (view_expr a)
  unfolding decided decided_all decided_rows
  decided-Negate a = ap (decisions_of w) (view_expr-Negate at a)

  pub decided-CodeOf : (a : Expr) → decided w (view_expr (expr.CodeOf at a)) ≡ decided w (view_expr a)
  unfolding decided decided_all decided_rows
  decided-CodeOf a = ap (decisions_of w) (view_expr-CodeOf at a)

  pub decided-CharOf : (a : Expr) → decided w (view_expr (expr.CharOf at a)) ≡ decided w (view_expr a)
  unfolding decided decided_all decided_rows
  decided-CharOf a = ap (decisions_of w) (view_expr-CharOf at a)

  pub decided-Number : (n : ℤ) → decided w (view_expr (expr.Number at n)) ≡ []
  unfolding decided decided_all decided_rows
  decided-Number n = ap (decisions_of w) (view_expr-Number at n)

  pub decided-Character : (c : ℕ) → decided w (view_expr (expr.Character at c)) ≡ []
  unfolding decided decided_all decided_rows
  decided-Character c = ap (decisions_of w) (view_expr-Character at c)

  pub decided-Text : (text : List ℕ) → decided w (view_expr (expr.Text at text)) ≡ []
  unfolding decided decided_all decided_rows
  decided-Text text = ap (decisions_of w) (view_expr-Text at text)

  pub decided-True : decided w (view_expr (expr.True at)) ≡ []
  unfolding decided decided_all decided_rows
  decided-True = ap (decisions_of w) (view_expr-True at)

  pub decided-False : decided w (view_expr (expr.False at)) ≡ []
  unfolding decided decided_all decided_rows
  decided-False = ap (decisions_of w) (view_expr-False at)

  pub decided-Variable : (x : Name) → decided w (view_expr (expr.Variable at x)) ≡ []
  unfolding decided decided_all decided_rows
  decided-Variable x = ap (decisions_of w) (view_expr-Variable at x)

  pub decided-Call : (x : Name) (args : List Expr) → decided w (view_expr (expr.Call at x args)) ≡ decided_all w (exprs (map view_expr args))
  unfolding decided decided_all decided_rows
  decided-Call x args = ap (decisions_of w) (view_expr-Call at x args)

  pub decided-Constructor : (x : Name) (args : List Expr) → decided w (view_expr (expr.Constructor at x args)) ≡ decided_all w (exprs (map view_expr args))
  unfolding decided decided_all decided_rows
  decided-Constructor x args = ap (decisions_of w) (view_expr-Constructor at x args)

  pub decided-List : (args : List Expr) → decided w (view_expr (expr.List at args)) ≡ decided_all w (exprs (map view_expr args))
  unfolding decided decided_all decided_rows
  decided-List args = ap (decisions_of w) (view_expr-List at args)

pub ruleset nodes = (decided-If, decided-Case, decided-Or, decided-And, decided-Compare, decided-Cons, decided-Append, decided-Calculate, decided-Negate, decided-Number, decided-Character, decided-Text, decided-True, decided-False, decided-Variable, decided-Call, decided-CodeOf, decided-CharOf, decided-Constructor, decided-List, decided-Pair, append-nil)

-- Lists and rows

pub all-at : (w : World) (xs : List Expr) (i : ℕ) (x : Expr) → i < length xs → x ≡ get_or xs i x
    → decided_all w (exprs (map view_expr (drop i xs))) ≡ decided w (view_expr x) ++ decided_all w (exprs (map view_expr (drop (i + 1) xs)))
unfolding decided decided_all
all-at w xs i x l is = ap (λ ys. decisions_of_all w (exprs (map view_expr ys))) (drop-at xs i x l is)

pub all-end : (w : World) (xs : List Expr) (i : ℕ) → length xs ≤ i → decided_all w (exprs (map view_expr (drop i xs))) ≡ []
unfolding decided_all
all-end w xs i l = ap (λ ys. decisions_of_all w (exprs (map view_expr ys))) (drop_all i xs l)

pub rows-at : (w : World) (rows : List ExprRow) (i : ℕ) (r : ExprRow) → i < length rows → r ≡ get_or rows i r
    → decided_rows w (expr_rows (map view_expr_row (drop i rows))) ≡ decided w (view_expr_row r).1 ++ decided_rows w (expr_rows (map view_expr_row (drop (i + 1) rows)))
unfolding decided decided_rows
rows-at w rows i r l is = ap (λ ys. decisions_of_rows w (expr_rows (map view_expr_row ys))) (drop-at rows i r l is)

pub rows-end : (w : World) (rows : List ExprRow) (i : ℕ) → length rows ≤ i → decided_rows w (expr_rows (map view_expr_row (drop i rows))) ≡ []
unfolding decided_rows
rows-end w rows i l = ap (λ ys. decisions_of_rows w (expr_rows (map view_expr_row ys))) (drop_all i rows l)

-- one step of a loop that appends
pub went : (new old first rest whole : List Decision) → new ≡ old ++ first → old ++ (first ++ rest) ≡ whole → new ++ rest ≡ whole
went new old first rest whole i so = ap (λ l. l ++ rest) i ∙ append_assoc old first rest ∙ so

pub row-value : (w : World) (r : ExprRow) → decided w (view_expr r.value) ≡ decided w (view_expr_row r).1
row-value w r = ap (λ (q : Pattern × e.Expr). decided w q.1) (sym (view_expr_row-out r))

pub ruleset rows = (row-value)

-- the patterns of rows as matching sees them
pub forms-are : (rows : List ExprRow) → map (λ (r : ExprRow). list_of (part_forms (pattern_then (view_expr_row r).0 no_patterns))) rows ≡ forms_of_rows (expr_rows (map view_expr_row rows))
forms-are [] = refl
forms-are (r ∷ rows) = ap (λ (l : List (List Form)). list_of (part_forms (pattern_then (view_expr_row r).0 no_patterns)) ∷ l) (forms-are rows)

pub ruleset forms = (forms-are, map_push)

-- Functions

pub open-decided : (w : World) (a : e.Expr) → decided w a ≡ decisions_of w a
unfolding decided
open-decided w a = refl

pub ruleset opened = (open-decided)

pub function-rows-at : (w : World) (rows : List FunctionRow) (i : ℕ) (r : FunctionRow) → i < length rows → r ≡ get_or rows i r
    → decisions_of_function_rows w (map view_function_row (drop i rows)) ≡ decisions_of w (view_function_row r).value ++ decisions_of_function_rows w (map view_function_row (drop (i + 1) rows))
function-rows-at w rows i r l is = ap (λ ys. decisions_of_function_rows w (map view_function_row ys)) (drop-at rows i r l is)

pub function-rows-end : (w : World) (rows : List FunctionRow) (i : ℕ) → length rows ≤ i → decisions_of_function_rows w (map view_function_row (drop i rows)) ≡ []
function-rows-end w rows i l = ap (λ ys. decisions_of_function_rows w (map view_function_row ys)) (drop_all i rows l)

pub function-forms-are : (rows : List FunctionRow) → map (λ (r : FunctionRow). list_of (part_forms (patterns (map view_pattern r.patterns)))) rows ≡ function_rows (map view_function_row rows)
function-forms-are [] = refl
function-forms-are (r ∷ rows) = ap (λ (l : List (List Form)). list_of (part_forms (patterns (map view_pattern r.patterns))) ∷ l) (function-forms-are rows)

pub ruleset function_forms = (function-forms-are, length-map)
