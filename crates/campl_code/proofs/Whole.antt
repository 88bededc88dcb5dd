-- The code that is generated for a typed source's functions stands for them.
use Rattle.std.proofs.Common.{◌≡◌, refl, subst, arith, ℕ, ◌+◌, List, [], ◌∷◌, ◌++◌, length, length-append}
use Rattle.campl_tree.specs.Plain.Expr as e
use Rattle.campl_tree.specs.Plain.Expr.{Expr, Exprs, ExprRows}
use Rattle.campl_tree.specs.Plain.Decl.{FunctionDecl, FunctionRow, Program}
use Rattle.campl_types.specs.Sequential.{expr_rows, function_rows}
use Rattle.campl_types.specs.Typed.{IsTyped}
use Rattle.campl_types.specs.World.{World, world_of}
use Rattle.campl_code.specs.Decisions.{Decision}
use Rattle.campl_code.specs.Compiled.{decision_for}
use Rattle.campl_code.specs.Stands.{functions_of, FunctionsStand}
use Rattle.campl_code.specs.CaseDecisions.{cases_in, cases_in_all, cases_in_rows, cases_in_function_rows, cases_in_function, decisions_of, decisions_of_all, decisions_of_rows, decisions_of_function_rows, decisions_of_function, decisions_of_functions}
use Rattle.campl_code.specs.Needs.{Decided, AllDecided, RowsDecided, FunctionRowsDecided, FunctionDecided, FunctionsDecided}
use Rattle.campl_code.specs.Generated.{functions_code}
use Rattle.campl_code.proofs.Flattened.{decision-stands}
use Rattle.campl_code.proofs.Standing.{HasAt, has_front, has_back, has_all, functions_stand}
use Rattle.campl_code.proofs.Known.{source-known}

-- As many decisions as cases

mutual
  pub many : (w : World) (a : Expr) → length (decisions_of w a) ≡ cases_in a
  many w (e.Number at x) = refl
  many w (e.Character at x) = refl
  many w (e.Text at x) = refl
  many w (e.True at) = refl
  many w (e.False at) = refl
  many w (e.Variable at x) = refl
  many w (e.List at items) = many_all w items
  many w (e.Cons at a b) = omega (arith, length-append (decisions_of w a) (decisions_of w b), many w a, many w b)
  many w (e.Append at a b) = omega (arith, length-append (decisions_of w a) (decisions_of w b), many w a, many w b)
  many w (e.Pair at a b) = omega (arith, length-append (decisions_of w a) (decisions_of w b), many w a, many w b)
  many w (e.Compare at a op b) = omega (arith, length-append (decisions_of w a) (decisions_of w b), many w a, many w b)
  many w (e.Calculate at a op b) = omega (arith, length-append (decisions_of w a) (decisions_of w b), many w a, many w b)
  many w (e.And at a b) = omega (arith, length-append (decisions_of w a) (decisions_of w b), many w a, many w b)
  many w (e.Or at a b) = omega (arith, length-append (decisions_of w a) (decisions_of w b), many w a, many w b)
  many w (e.Negate at a) = many w a
  many w (e.CodeOf at a) = many w a
  many w (e.CharOf at a) = many w a
  many w (e.If at a b c) = omega (arith, length-append (decisions_of w a) (decisions_of w b ++ decisions_of w c), length-append (decisions_of w b) (decisions_of w c), many w a, many w b, many w c)
  many w (e.Call at x args) = many_all w args
  many w (e.Constructor at x args) = many_all w args
  many w (e.Case at a rows) = omega (arith, length-append (decisions_of w a) (decision_for w 1 (expr_rows rows) ∷ decisions_of_rows w rows), many w a, many_rows w rows)

  many_all : (w : World) (all : Exprs) → length (decisions_of_all w all) ≡ cases_in_all all
  many_all w e.no_exprs = refl
  many_all w (e.expr_then a rest) = omega (arith, length-append (decisions_of w a) (decisions_of_all w rest), many w a, many_all w rest)

  many_rows : (w : World) (rows : ExprRows) → length (decisions_of_rows w rows) ≡ cases_in_rows rows
  many_rows w e.no_expr_rows = refl
  many_rows w (e.expr_row_then p a rows) = omega (arith, length-append (decisions_of w a) (decisions_of_rows w rows), many w a, many_rows w rows)

many_function_rows : (w : World) (rows : List FunctionRow) → length (decisions_of_function_rows w rows) ≡ cases_in_function_rows rows
many_function_rows w [] = refl
many_function_rows w (r ∷ rows) = omega (arith, length-append (decisions_of w r.value) (decisions_of_function_rows w rows), many w r.value, many_function_rows w rows)

-- They stand for the rows

module _ (w : World) (ds : List Decision) where
  behind_at : (x y : List Decision) (dec n : ℕ) → length x ≡ n → HasAt ds dec (x ++ y) → HasAt ds (dec + n) y
  behind_at x y dec n e h = subst (λ (k : ℕ). HasAt ds (dec + k) y) e (has_back ds dec x y h)

  mutual
    pub decided : (a : Expr) (dec : ℕ) → HasAt ds dec (decisions_of w a) → Decided w ds dec a
    decided (e.Number at x) dec h = tt
    decided (e.Character at x) dec h = tt
    decided (e.Text at x) dec h = tt
    decided (e.True at) dec h = tt
    decided (e.False at) dec h = tt
    decided (e.Variable at x) dec h = tt
    decided (e.List at items) dec h = decided_all items dec h
    decided (e.Cons at a b) dec h = (decided a dec (has_front ds dec (decisions_of w a) (decisions_of w b) h), decided b (dec + cases_in a) (behind_at (decisions_of w a) (decisions_of w b) dec (cases_in a) (many w a) h))
    decided (e.Append at a b) dec h = (decided a dec (has_front ds dec (decisions_of w a) (decisions_of w b) h), decided b (dec + cases_in a) (behind_at (decisions_of w a) (decisions_of w b) dec (cases_in a) (many w a) h))
    decided (e.Pair at a b) dec h = (decided a dec (has_front ds dec (decisions_of w a) (decisions_of w b) h), decided b (dec + cases_in a) (behind_at (decisions_of w a) (decisions_of w b) dec (cases_in a) (many w a) h))
    decided (e.Compare at a op b) dec h = (decided a dec (has_front ds dec (decisions_of w a) (decisions_of w b) h), decided b (dec + cases_in a) (behind_at (decisions_of w a) (decisions_of w b) dec (cases_in a) (many w a) h))
    decided (e.Calculate at a op b) dec h = (decided a dec (has_front ds dec (decisions_of w a) (decisions_of w b) h), decided b (dec + cases_in a) (behind_at (decisions_of w a) (decisions_of w b) dec (cases_in a) (many w a) h))
    decided (e.And at a b) dec h = (decided a dec (has_front ds dec (decisions_of w a) (decisions_of w b) h), decided b (dec + cases_in a) (behind_at (decisions_of w a) (decisions_of w b) dec (cases_in a) (many w a) h))
    decided (e.Or at a b) dec h = (decided a dec (has_front ds dec (decisions_of w a) (decisions_of w b) h), decided b (dec + cases_in a) (behind_at (decisions_of w a) (decisions_of w b) dec (cases_in a) (many w a) h))
    decided (e.Negate at a) dec h = decided a dec h
    decided (e.CodeOf at a) dec h = decided a dec h
    decided (e.CharOf at a) dec h = decided a dec h
    decided (e.If at a b c) dec h =
        let rest = behind_at (decisions_of w a) (decisions_of w b ++ decisions_of w c) dec (cases_in a) (many w a) h in (
          decided a dec (has_front ds dec (decisions_of w a) (decisions_of w b ++ decisions_of w c) h),
          decided b (dec + cases_in a) (has_front ds (dec + cases_in a) (decisions_of w b) (decisions_of w c) rest),
          decided c (dec + cases_in a + cases_in b) (behind_at (decisions_of w b) (decisions_of w c) (dec + cases_in a) (cases_in b) (many w b) rest),
        )
    decided (e.Call at x args) dec h = decided_all args dec h
    decided (e.Constructor at x args) dec h = decided_all args dec h
    decided (e.Case at a rows) dec h =
        let d = decision_for w 1 (expr_rows rows) in
        let rest = behind_at (decisions_of w a) (d ∷ decisions_of_rows w rows) dec (cases_in a) (many w a) h in
        (decided a dec (has_front ds dec (decisions_of w a) (d ∷ decisions_of_rows w rows) h), (d, rest.0, decision-stands w 1 (expr_rows rows)), decided_rows rows (dec + cases_in a + 1) rest.1)

    pub decided_all : (all : Exprs) (dec : ℕ) → HasAt ds dec (decisions_of_all w all) → AllDecided w ds dec all
    decided_all e.no_exprs dec h = tt
    decided_all (e.expr_then a rest) dec h =
        (decided a dec (has_front ds dec (decisions_of w a) (decisions_of_all w rest) h), decided_all rest (dec + cases_in a) (behind_at (decisions_of w a) (decisions_of_all w rest) dec (cases_in a) (many w a) h))

    decided_rows : (rows : ExprRows) (dec : ℕ) → HasAt ds dec (decisions_of_rows w rows) → RowsDecided w ds dec rows
    decided_rows e.no_expr_rows dec h = tt
    decided_rows (e.expr_row_then p a rows) dec h =
        (decided a dec (has_front ds dec (decisions_of w a) (decisions_of_rows w rows) h), decided_rows rows (dec + cases_in a) (behind_at (decisions_of w a) (decisions_of_rows w rows) dec (cases_in a) (many w a) h))

  decided_function_rows : (rows : List FunctionRow) (dec : ℕ) → HasAt ds dec (decisions_of_function_rows w rows) → FunctionRowsDecided w ds dec rows
  decided_function_rows [] dec h = tt
  decided_function_rows (r ∷ rows) dec h = (
    decided r.value dec (has_front ds dec (decisions_of w r.value) (decisions_of_function_rows w rows) h),
    decided_function_rows rows (dec + cases_in r.value) (behind_at (decisions_of w r.value) (decisions_of_function_rows w rows) dec (cases_in r.value) (many w r.value) h),
  )

  decided_function : (f : FunctionDecl) (dec : ℕ) → HasAt ds dec (decisions_of_function w f) → FunctionDecided w ds dec f
  decided_function f dec h = ((decision_for w (length f.parameters) (function_rows f.rows), h.0, decision-stands w (length f.parameters) (function_rows f.rows)), decided_function_rows f.rows (dec + 1) h.1)

  many_function : (f : FunctionDecl) → length (decisions_of_function w f) ≡ cases_in_function f
  many_function f = omega (arith, many_function_rows w f.rows)

  pub decided_functions : (fs : List FunctionDecl) (dec : ℕ) → HasAt ds dec (decisions_of_functions w fs) → FunctionsDecided w ds dec fs
  decided_functions [] dec h = tt
  decided_functions (f ∷ fs) dec h = (
    decided_function f dec (has_front ds dec (decisions_of_function w f) (decisions_of_functions w fs) h),
    decided_functions fs (dec + cases_in_function f) (behind_at (decisions_of_function w f) (decisions_of_functions w fs) dec (cases_in_function f) (many_function f) h),
  )

pub generated-stands : (source : Program) → IsTyped source → FunctionsStand (world_of source) (functions_code (world_of source))
generated-stands source t =
    let w = world_of source in
    functions_stand w (functions_code w) 0 refl (source-known source t) (decided_functions w (decisions_of_functions w (functions_of w)) (functions_of w) 0 (has_all (decisions_of_functions w (functions_of w))))
