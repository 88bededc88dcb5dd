-- Expressions as definitions see them.
use Rattle.std.specs.Prelude.{ℕ, ℤ, List as Many}
use Rattle.campl_tree.specs.declared.place.Place.{Place}
use Rattle.campl_tree.specs.declared.name.Name.{Name}
use Rattle.campl_tree.specs.declared.expr.Comparison.{Comparison}
use Rattle.campl_tree.specs.declared.expr.Arithmetic.{Arithmetic}
use Rattle.campl_tree.specs.Plain.Pattern.{Pattern}

mutual
  pub data Expr : Type 0 where
    If : Place → Expr → Expr → Expr → Expr
    Case : Place → Expr → ExprRows → Expr
    Or : Place → Expr → Expr → Expr
    And : Place → Expr → Expr → Expr
    Compare : Place → Expr → Comparison → Expr → Expr
    Cons : Place → Expr → Expr → Expr
    Append : Place → Expr → Expr → Expr
    Calculate : Place → Expr → Arithmetic → Expr → Expr
    Negate : Place → Expr → Expr
    Number : Place → ℤ → Expr
    Character : Place → ℕ → Expr
    Text : Place → Many ℕ → Expr
    True : Place → Expr
    False : Place → Expr
    Variable : Place → Name → Expr
    Call : Place → Name → Exprs → Expr
    CodeOf : Place → Expr → Expr
    CharOf : Place → Expr → Expr
    Constructor : Place → Name → Exprs → Expr
    List : Place → Exprs → Expr
    Pair : Place → Expr → Expr → Expr

  -- arguments, parts or elements
  pub data Exprs : Type 0 where
    no_exprs : Exprs
    expr_then : Expr → Exprs → Exprs

  -- the rows of a `case`, each a pattern and a value
  pub data ExprRows : Type 0 where
    no_expr_rows : ExprRows
    expr_row_then : Pattern → Expr → ExprRows → ExprRows
