-- An evaluation that ends goes the same with one more call allowed.
use Rattle.std.proofs.Common.{refl, ℕ, zero, suc, Bool, true, false, List, [], ◌∷◌, ◌++◌, Option, Some, None, if◌then◌else◌, slice_get, nat_le}
use Rattle.campl_tree.specs.Plain.Expr as e
use Rattle.campl_tree.specs.Plain.Expr.{Expr, Exprs, ExprRows}
use Rattle.campl_tree.specs.Plain.Decl.{FunctionDecl, FunctionRow}
use Rattle.campl_value.specs.Tree.{Tree, Nil, Cell, Pair, built, depth_of}
use Rattle.campl_value.specs.Text.{text_of}
use Rattle.campl_value.specs.List.{in_front, appended}
use Rattle.campl_value.specs.Compare.{compared}
use Rattle.campl_value.specs.declared.value.TheConstants.{MAX_DEPTH}
use Rattle.campl_types.specs.Names.{Name, found}
use Rattle.campl_types.specs.World.{World, function_named}
use Rattle.campl_types.specs.Matching.{Bindings, first_match, number_of}
use Rattle.campl_types.specs.Sequential.{expr_rows, function_rows}
use Rattle.campl_evaluation.specs.Evaluation.{Answer, Done, Deep, Wrong, More, and_then, made, given, truth, int, char, Caller, value, values, row_value, body_value, calls, value_of}
use Rattle.campl_evaluation.specs.Budget.{Longer}

longer-then : {A B : Type 0} (r s : Answer A) (next later : A → ℕ → Answer B) → Longer r s → ((a : A) (n : ℕ) → Longer (next a n) (later a (suc n))) → Longer (and_then r next) (and_then s later)
longer-then (Done a n) s next later h step = rw h (step a n)
longer-then (Deep n) s next later h step = rw h refl
longer-then (Wrong n) s next later h step = rw h refl
longer-then More s next later h step = tt

longer-given : {A B : Type 0} (o : Option A) (n : ℕ) (next later : A → Answer B) → ((a : A) → Longer (next a) (later a)) → Longer (given o n next) (given o (suc n) later)
longer-given None n next later step = refl
longer-given (Some a) n next later step = step a

longer-made : (t : Tree) (n : ℕ) → Longer (made t n) (made t (suc n))
longer-made t n = go (nat_le (depth_of t) MAX_DEPTH)
  where
    go : (b : Bool) → Longer (if b then Done t n else Deep n) (if b then Done t (suc n) else Deep (suc n))
    go true = refl
    go false = refl

longer-if : (b : Bool) (x y u v : Answer Tree) → Longer x u → Longer y v → Longer (if b then x else y) (if b then u else v)
longer-if true x y u v h k = h
longer-if false x y u v h k = k

-- one caller ends as the other does, with one more call left
abbrev LongerCalls : Caller → Caller → Type 0
LongerCalls c d = (x : Name) (vs : List Tree) (n : ℕ) → Longer (c x vs n) (d x vs (suc n))

mutual
  longer-value : (w : World) (c d : Caller) → LongerCalls c d → (a : Expr) (vars : Bindings) (n : ℕ) → Longer (value w c a vars n) (value w d a vars (suc n))
  longer-value w c d h (e.Number at x) vars n = refl
  longer-value w c d h (e.Character at x) vars n = refl
  longer-value w c d h (e.Text at text) vars n = longer-made (text_of text) n
  longer-value w c d h (e.True at) vars n = refl
  longer-value w c d h (e.False at) vars n = refl
  longer-value w c d h (e.Variable at x) vars n = longer-given (found x vars) n _ _ (λ v. refl)
  longer-value w c d h (e.List at items) vars n = longer-then _ _ _ _ (longer-values w c d h items vars n) (λ vs m. longer-made (in_front vs Nil) m)
  longer-value w c d h (e.Cons at a b) vars n =
      longer-then _ _ _ _ (longer-value w c d h a vars n) (λ v m. longer-then _ _ _ _ (longer-value w c d h b vars m) (λ u k. longer-made (Cell v u) k))
  longer-value w c d h (e.Append at a b) vars n =
      longer-then _ _ _ _ (longer-value w c d h a vars n) (λ v m. longer-then _ _ _ _ (longer-value w c d h b vars m) (λ u k. longer-given (appended v u) k _ _ (λ t. longer-made t k)))
  longer-value w c d h (e.Pair at a b) vars n =
      longer-then _ _ _ _ (longer-value w c d h a vars n) (λ v m. longer-then _ _ _ _ (longer-value w c d h b vars m) (λ u k. longer-made (Pair v u) k))
  longer-value w c d h (e.If at a b b2) vars n =
      longer-then _ _ _ _ (longer-value w c d h a vars n) (λ v m. longer-given (truth v) m _ _ (λ t. longer-if t _ _ _ _ (longer-value w c d h b vars m) (longer-value w c d h b2 vars m)))
  longer-value w c d h (e.Case at a rows) vars n =
      longer-then _ _ _ _ (longer-value w c d h a vars n) (λ v m. longer-given (first_match w (expr_rows rows) (v ∷ [])) m _ _ (λ r. longer-row w c d h rows r.0 (r.1 ++ vars) m))
  longer-value w c d h (e.Compare at a op b) vars n =
      longer-then _ _ _ _ (longer-value w c d h a vars n) (λ v m. longer-then _ _ _ _ (longer-value w c d h b vars m) (λ u k. longer-given (compared v u) k _ _ (λ o. refl)))
  longer-value w c d h (e.Or at a b) vars n =
      longer-then _ _ _ _ (longer-value w c d h a vars n) (λ v m. longer-given (truth v) m _ _ (λ t. longer-if t _ _ _ _ refl
      (longer-then _ _ _ _ (longer-value w c d h b vars m) (λ u k. longer-given (truth u) k _ _ (λ s. refl)))))
  longer-value w c d h (e.And at a b) vars n =
      longer-then _ _ _ _ (longer-value w c d h a vars n) (λ v m. longer-given (truth v) m _ _ (λ t. longer-if t _ _ _ _
      (longer-then _ _ _ _ (longer-value w c d h b vars m) (λ u k. longer-given (truth u) k _ _ (λ s. refl))) refl))
  longer-value w c d h (e.Calculate at a op b) vars n =
      longer-then _ _ _ _ (longer-value w c d h a vars n) (λ v m. longer-then _ _ _ _ (longer-value w c d h b vars m) (λ u k. longer-given (int v) k _ _ (λ x. longer-given (int u) k _ _ (λ y. refl))))
  longer-value w c d h (e.Negate at a) vars n = longer-then _ _ _ _ (longer-value w c d h a vars n) (λ v m. longer-given (int v) m _ _ (λ x. refl))
  longer-value w c d h (e.CodeOf at a) vars n = longer-then _ _ _ _ (longer-value w c d h a vars n) (λ v m. longer-given (char v) m _ _ (λ x. refl))
  longer-value w c d h (e.CharOf at a) vars n = longer-then _ _ _ _ (longer-value w c d h a vars n) (λ v m. longer-given (int v) m _ _ (λ x. refl))
  longer-value w c d h (e.Call at x args) vars n = longer-then _ _ _ _ (longer-values w c d h args vars n) (λ vs m. h x vs m)
  longer-value w c d h (e.Constructor at x args) vars n =
      longer-then _ _ _ _ (longer-values w c d h args vars n) (λ vs m. longer-given (number_of w x) m _ _ (λ k. longer-made (built k vs) m))

  longer-values : (w : World) (c d : Caller) → LongerCalls c d → (all : Exprs) (vars : Bindings) (n : ℕ) → Longer (values w c all vars n) (values w d all vars (suc n))
  longer-values w c d h e.no_exprs vars n = refl
  longer-values w c d h (e.expr_then a rest) vars n =
      longer-then _ _ _ _ (longer-value w c d h a vars n) (λ v m. longer-then _ _ _ _ (longer-values w c d h rest vars m) (λ vs k. refl))

  longer-row : (w : World) (c d : Caller) → LongerCalls c d → (rows : ExprRows) (i : ℕ) (vars : Bindings) (n : ℕ) → Longer (row_value w c rows i vars n) (row_value w d rows i vars (suc n))
  longer-row w c d h e.no_expr_rows i vars n = refl
  longer-row w c d h (e.expr_row_then p a rows) zero vars n = longer-value w c d h a vars n
  longer-row w c d h (e.expr_row_then p a rows) (suc i) vars n = longer-row w c d h rows i vars n

longer-body : (w : World) (c d : Caller) → LongerCalls c d → (f : FunctionDecl) (vs : List Tree) (n : ℕ) → Longer (body_value w c f vs n) (body_value w d f vs (suc n))
longer-body w c d h f vs n =
    longer-given (first_match w (function_rows f.rows) vs) n _ _ (λ r. longer-given (slice_get f.rows r.0) n _ _ (λ (row : FunctionRow). longer-value w c d h row.value r.1 n))

longer-calls : (w : World) (d : ℕ) → LongerCalls (calls w d) (calls w (suc d))
longer-calls w zero x vs n = longer-given (function_named w x) n (λ f. More) _ (λ f. tt)
longer-calls w (suc d) x vs zero = longer-given (function_named w x) 0 (λ f. More) _ (λ f. tt)
longer-calls w (suc d) x vs (suc n) = longer-given (function_named w x) (suc n) _ _ (λ f. longer-body w (calls w d) (calls w (suc d)) (longer-calls w d) f vs n)

pub one-more : (w : World) (a : Expr) (vars : Bindings) (n : ℕ) → Longer (value_of w a vars n) (value_of w a vars (suc n))
one-more w a vars n = longer-value w (calls w n) (calls w (suc n)) (longer-calls w n) a vars n
