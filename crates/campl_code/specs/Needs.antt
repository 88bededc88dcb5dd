-- What an expression and a function need so that the generated code stands for them.
use Rattle.std.specs.Prelude.{◌≡◌, ℕ, ◌+◌, true, List, [], ◌∷◌, Some, slice_get, length}
use Rattle.campl_tree.specs.Plain.Expr as e
use Rattle.campl_tree.specs.Plain.Expr.{Expr, Exprs, ExprRows}
use Rattle.campl_tree.specs.Plain.Decl.{FunctionDecl, FunctionRow}
use Rattle.campl_types.specs.Forms.{Form}
use Rattle.campl_types.specs.Names.{Name, is_among}
use Rattle.campl_types.specs.World.{World, function_named}
use Rattle.campl_types.specs.Matching.{number_of}
use Rattle.campl_types.specs.Patterns.{bound_in, bound_in_all}
use Rattle.campl_types.specs.Sequential.{expr_rows, function_rows}
use Rattle.campl_code.specs.Decisions.{Decision, StandsForRows}
use Rattle.campl_code.specs.Stands.{count}
use Rattle.campl_code.specs.CaseDecisions.{cases_in, cases_in_function}

-- Decisions, from a number on, stand for the rows of the cases in order

abbrev pub decided : World → List Decision → ℕ → List (List Form) → ℕ → Type 0
decided w ds dec rows n = (d : Decision) × (slice_get ds dec ≡ Some d) × StandsForRows w d rows n

-- What an expression needs: known variables, functions and constructors, and as many arguments as a function takes

abbrev pub behind : List Name → List Name → List Name
behind [] names = names
behind (x ∷ xs) names = behind xs (x ∷ names)

abbrev mutual
  pub IsKnown : World → List Name → Expr → Type 0
  IsKnown w names (e.Number at x) = Unit {0}
  IsKnown w names (e.Character at x) = Unit {0}
  IsKnown w names (e.Text at x) = Unit {0}
  IsKnown w names (e.True at) = Unit {0}
  IsKnown w names (e.False at) = Unit {0}
  IsKnown w names (e.Variable at x) = is_among x names ≡ true
  IsKnown w names (e.List at items) = AreKnown w names items
  IsKnown w names (e.Cons at a b) = IsKnown w names a × IsKnown w names b
  IsKnown w names (e.Append at a b) = IsKnown w names a × IsKnown w names b
  IsKnown w names (e.Pair at a b) = IsKnown w names a × IsKnown w names b
  IsKnown w names (e.Compare at a op b) = IsKnown w names a × IsKnown w names b
  IsKnown w names (e.Calculate at a op b) = IsKnown w names a × IsKnown w names b
  IsKnown w names (e.And at a b) = IsKnown w names a × IsKnown w names b
  IsKnown w names (e.Or at a b) = IsKnown w names a × IsKnown w names b
  IsKnown w names (e.Negate at a) = IsKnown w names a
  IsKnown w names (e.CodeOf at a) = IsKnown w names a
  IsKnown w names (e.CharOf at a) = IsKnown w names a
  IsKnown w names (e.If at a b c) = IsKnown w names a × IsKnown w names b × IsKnown w names c
  IsKnown w names (e.Call at x args) = (f : FunctionDecl) × (function_named w x ≡ Some f) × (length f.parameters ≡ count args) × AreKnown w names args
  IsKnown w names (e.Constructor at x args) = (k : ℕ) × (number_of w x ≡ Some k) × AreKnown w names args
  IsKnown w names (e.Case at a rows) = IsKnown w names a × RowsAreKnown w names rows

  pub AreKnown : World → List Name → Exprs → Type 0
  AreKnown w names e.no_exprs = Unit {0}
  AreKnown w names (e.expr_then a rest) = IsKnown w names a × AreKnown w names rest

  pub RowsAreKnown : World → List Name → ExprRows → Type 0
  RowsAreKnown w names e.no_expr_rows = Unit {0}
  RowsAreKnown w names (e.expr_row_then p a rows) = IsKnown w (behind (bound_in p) names) a × RowsAreKnown w names rows

-- the decisions from a number on stand for the cases of an expression, in order
abbrev mutual
  pub Decided : World → List Decision → ℕ → Expr → Type 0
  Decided w ds dec (e.Number at x) = Unit {0}
  Decided w ds dec (e.Character at x) = Unit {0}
  Decided w ds dec (e.Text at x) = Unit {0}
  Decided w ds dec (e.True at) = Unit {0}
  Decided w ds dec (e.False at) = Unit {0}
  Decided w ds dec (e.Variable at x) = Unit {0}
  Decided w ds dec (e.List at items) = AllDecided w ds dec items
  Decided w ds dec (e.Cons at a b) = Decided w ds dec a × Decided w ds (dec + cases_in a) b
  Decided w ds dec (e.Append at a b) = Decided w ds dec a × Decided w ds (dec + cases_in a) b
  Decided w ds dec (e.Pair at a b) = Decided w ds dec a × Decided w ds (dec + cases_in a) b
  Decided w ds dec (e.Compare at a op b) = Decided w ds dec a × Decided w ds (dec + cases_in a) b
  Decided w ds dec (e.Calculate at a op b) = Decided w ds dec a × Decided w ds (dec + cases_in a) b
  Decided w ds dec (e.And at a b) = Decided w ds dec a × Decided w ds (dec + cases_in a) b
  Decided w ds dec (e.Or at a b) = Decided w ds dec a × Decided w ds (dec + cases_in a) b
  Decided w ds dec (e.Negate at a) = Decided w ds dec a
  Decided w ds dec (e.CodeOf at a) = Decided w ds dec a
  Decided w ds dec (e.CharOf at a) = Decided w ds dec a
  Decided w ds dec (e.If at a b c) = Decided w ds dec a × Decided w ds (dec + cases_in a) b × Decided w ds (dec + cases_in a + cases_in b) c
  Decided w ds dec (e.Call at x args) = AllDecided w ds dec args
  Decided w ds dec (e.Constructor at x args) = AllDecided w ds dec args
  Decided w ds dec (e.Case at a rows) =
      Decided w ds dec a × decided w ds (dec + cases_in a) (expr_rows rows) 1 × RowsDecided w ds (dec + cases_in a + 1) rows

  pub AllDecided : World → List Decision → ℕ → Exprs → Type 0
  AllDecided w ds dec e.no_exprs = Unit {0}
  AllDecided w ds dec (e.expr_then a rest) = Decided w ds dec a × AllDecided w ds (dec + cases_in a) rest

  pub RowsDecided : World → List Decision → ℕ → ExprRows → Type 0
  RowsDecided w ds dec e.no_expr_rows = Unit {0}
  RowsDecided w ds dec (e.expr_row_then p a rows) = Decided w ds dec a × RowsDecided w ds (dec + cases_in a) rows

abbrev pub FunctionRowsKnown : World → List FunctionRow → Type 0
FunctionRowsKnown w [] = Unit {0}
FunctionRowsKnown w (r ∷ rows) = IsKnown w (behind (bound_in_all r.patterns) []) r.value × FunctionRowsKnown w rows

abbrev pub FunctionRowsDecided : World → List Decision → ℕ → List FunctionRow → Type 0
FunctionRowsDecided w ds dec [] = Unit {0}
FunctionRowsDecided w ds dec (r ∷ rows) = Decided w ds dec r.value × FunctionRowsDecided w ds (dec + cases_in r.value) rows

abbrev pub FunctionDecided : World → List Decision → ℕ → FunctionDecl → Type 0
FunctionDecided w ds dec f = decided w ds dec (function_rows f.rows) (length f.parameters) × FunctionRowsDecided w ds (dec + 1) f.rows

abbrev pub FunctionsDecided : World → List Decision → ℕ → List FunctionDecl → Type 0
FunctionsDecided w ds dec [] = Unit {0}
FunctionsDecided w ds dec (f ∷ fs) = FunctionDecided w ds dec f × FunctionsDecided w ds (dec + cases_in_function f) fs

abbrev pub FunctionsKnown : World → List FunctionDecl → Type 0
FunctionsKnown w [] = Unit {0}
FunctionsKnown w (f ∷ fs) = FunctionRowsKnown w f.rows × FunctionsKnown w fs
