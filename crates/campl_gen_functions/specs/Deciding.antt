-- The decisions of an expression. The words of the definition are closed here, so that a proof about code sees each node's own
-- equation; `proofs/Decided` has them.
use Rattle.std.specs.Prelude.{List, ◌∷◌, ◌++◌}
use Rattle.campl_tree.specs.Plain.Expr.{Expr, Exprs, ExprRows}
use Rattle.campl_types.specs.World.{World}
use Rattle.campl_types.specs.Sequential.{expr_rows}
use Rattle.campl_code.specs.CaseDecisions.{decisions_of, decisions_of_all, decisions_of_rows}
use Rattle.campl_code.specs.Compiled.{decision_for}
use Rattle.campl_code.specs.Decisions.{Decision}

unfoldable pub decided : World → Expr → List Decision
decided = decisions_of

unfoldable pub decided_all : World → Exprs → List Decision
decided_all = decisions_of_all

unfoldable pub decided_rows : World → ExprRows → List Decision
decided_rows = decisions_of_rows

abbrev pub decided_three : World → (a b c : Expr) → List Decision
decided_three w a b c = decided w a ++ (decided w b ++ decided w c)

abbrev pub decided_two : World → (a b : Expr) → List Decision
decided_two w a b = decided w a ++ decided w b

-- those before, that of the rows, and those in the rows' values
abbrev pub decided_case : World → Expr → ExprRows → List Decision
decided_case w a rows = decided w a ++ (decision_for w 1 (expr_rows rows) ∷ decided_rows w rows)
