-- The decisions of an expression and of a function: one for each `case`, and one for the rows of a function.
use Rattle.std.specs.Prelude.{ℕ, ◌+◌, List, [], ◌∷◌, ◌++◌, length}
use Rattle.campl_tree.specs.Plain.Expr as e
use Rattle.campl_tree.specs.Plain.Expr.{Expr, Exprs, ExprRows}
use Rattle.campl_tree.specs.Plain.Decl.{FunctionDecl, FunctionRow}
use Rattle.campl_types.specs.World.{World}
use Rattle.campl_types.specs.Sequential.{expr_rows, function_rows}
use Rattle.campl_code.specs.Decisions.{Decision}
use Rattle.campl_code.specs.Compiled.{decision_for}

-- How many decisions an expression takes: one for each `case`

abbrev mutual
  pub cases_in : Expr → ℕ
  cases_in (e.Number at x) = 0
  cases_in (e.Character at x) = 0
  cases_in (e.Text at x) = 0
  cases_in (e.True at) = 0
  cases_in (e.False at) = 0
  cases_in (e.Variable at x) = 0
  cases_in (e.List at items) = cases_in_all items
  cases_in (e.Cons at a b) = cases_in a + cases_in b
  cases_in (e.Append at a b) = cases_in a + cases_in b
  cases_in (e.Pair at a b) = cases_in a + cases_in b
  cases_in (e.Compare at a op b) = cases_in a + cases_in b
  cases_in (e.Calculate at a op b) = cases_in a + cases_in b
  cases_in (e.And at a b) = cases_in a + cases_in b
  cases_in (e.Or at a b) = cases_in a + cases_in b
  cases_in (e.Negate at a) = cases_in a
  cases_in (e.CodeOf at a) = cases_in a
  cases_in (e.CharOf at a) = cases_in a
  cases_in (e.If at a b c) = cases_in a + cases_in b + cases_in c
  cases_in (e.Call at x args) = cases_in_all args
  cases_in (e.Constructor at x args) = cases_in_all args
  cases_in (e.Case at a rows) = cases_in a + 1 + cases_in_rows rows

  pub cases_in_all : Exprs → ℕ
  cases_in_all e.no_exprs = 0
  cases_in_all (e.expr_then a rest) = cases_in a + cases_in_all rest

  pub cases_in_rows : ExprRows → ℕ
  cases_in_rows e.no_expr_rows = 0
  cases_in_rows (e.expr_row_then p a rows) = cases_in a + cases_in_rows rows

abbrev pub cases_in_function_rows : List FunctionRow → ℕ
cases_in_function_rows [] = 0
cases_in_function_rows (r ∷ rows) = cases_in r.value + cases_in_function_rows rows

abbrev pub cases_in_function : FunctionDecl → ℕ
cases_in_function f = 1 + cases_in_function_rows f.rows

-- The decisions themselves, in the order of the cases

abbrev mutual
  pub decisions_of : World → Expr → List Decision
  decisions_of w (e.Number at x) = []
  decisions_of w (e.Character at x) = []
  decisions_of w (e.Text at x) = []
  decisions_of w (e.True at) = []
  decisions_of w (e.False at) = []
  decisions_of w (e.Variable at x) = []
  decisions_of w (e.List at items) = decisions_of_all w items
  decisions_of w (e.Cons at a b) = decisions_of w a ++ decisions_of w b
  decisions_of w (e.Append at a b) = decisions_of w a ++ decisions_of w b
  decisions_of w (e.Pair at a b) = decisions_of w a ++ decisions_of w b
  decisions_of w (e.Compare at a op b) = decisions_of w a ++ decisions_of w b
  decisions_of w (e.Calculate at a op b) = decisions_of w a ++ decisions_of w b
  decisions_of w (e.And at a b) = decisions_of w a ++ decisions_of w b
  decisions_of w (e.Or at a b) = decisions_of w a ++ decisions_of w b
  decisions_of w (e.Negate at a) = decisions_of w a
  decisions_of w (e.CodeOf at a) = decisions_of w a
  decisions_of w (e.CharOf at a) = decisions_of w a
  decisions_of w (e.If at a b c) = decisions_of w a ++ (decisions_of w b ++ decisions_of w c)
  decisions_of w (e.Call at x args) = decisions_of_all w args
  decisions_of w (e.Constructor at x args) = decisions_of_all w args
  decisions_of w (e.Case at a rows) = decisions_of w a ++ (decision_for w 1 (expr_rows rows) ∷ decisions_of_rows w rows)

  pub decisions_of_all : World → Exprs → List Decision
  decisions_of_all w e.no_exprs = []
  decisions_of_all w (e.expr_then a rest) = decisions_of w a ++ decisions_of_all w rest

  pub decisions_of_rows : World → ExprRows → List Decision
  decisions_of_rows w e.no_expr_rows = []
  decisions_of_rows w (e.expr_row_then p a rows) = decisions_of w a ++ decisions_of_rows w rows

abbrev pub decisions_of_function_rows : World → List FunctionRow → List Decision
decisions_of_function_rows w [] = []
decisions_of_function_rows w (r ∷ rows) = decisions_of w r.value ++ decisions_of_function_rows w rows

abbrev pub decisions_of_function : World → FunctionDecl → List Decision
decisions_of_function w f = decision_for w (length f.parameters) (function_rows f.rows) ∷ decisions_of_function_rows w f.rows

abbrev pub decisions_of_functions : World → List FunctionDecl → List Decision
decisions_of_functions w [] = []
decisions_of_functions w (f ∷ fs) = decisions_of_function w f ++ decisions_of_functions w fs
