-- Evaluation by itself: how deep calls may go plays no part, where it is no less than the calls allowed.
use Rattle.std.proofs.Common.{◌≡◌, ◌∙◌, refl, ap, arith, ◌≤◌, ℕ, zero, suc, Bool, true, false, List, [], ◌∷◌, ◌++◌, Option, Some, None, if◌then◌else◌, slice_get, nat_le}
use Rattle.campl_tree.specs.Plain.Expr as e
use Rattle.campl_tree.specs.Plain.Expr.{Expr, Exprs, ExprRows}
use Rattle.campl_tree.specs.Plain.Decl.{FunctionDecl, FunctionRow}
use Rattle.campl_value.specs.Tree.{Tree, Nil, Cell, Pair, built, depth_of}
use Rattle.campl_value.specs.Text.{text_of}
use Rattle.campl_value.specs.List.{in_front, appended}
use Rattle.campl_value.specs.Compare.{compared}
use Rattle.campl_value.specs.declared.value.TheConstants.{MAX_DEPTH}
use Rattle.campl_types.specs.Names.{Name, found}
use Rattle.campl_types.specs.World.{World, function_named}
use Rattle.campl_types.specs.Matching.{Bindings, first_match, number_of}
use Rattle.campl_types.specs.Sequential.{expr_rows, function_rows}
use Rattle.campl_evaluation.specs.Evaluation.{Answer, Done, Deep, Wrong, More, and_then, made, given, truth, int, char, Caller, value, values, row_value, body_value, calls, value_of}

-- the calls that are left are at most so many
abbrev AtMost : {A : Type 0} → ℕ → Answer A → Type 0
AtMost n (Done a m) = m ≤ n
AtMost n (Deep m) = m ≤ n
AtMost n (Wrong m) = m ≤ n
AtMost n More = Unit {0}

abbrev Agree : {A : Type 0} → ℕ → Answer A → Answer A → Type 0
Agree n r s = (r ≡ s) × AtMost n r

weaker : {A : Type 0} (m n : ℕ) (r : Answer A) → m ≤ n → AtMost m r → AtMost n r
weaker m n (Done a k) l h = omega arith
weaker m n (Deep k) l h = omega arith
weaker m n (Wrong k) l h = omega arith
weaker m n More l h = tt

agree-then : {A B : Type 0} (n : ℕ) (r s : Answer A) (next later : A → ℕ → Answer B) → Agree n r s → ((a : A) (m : ℕ) → m ≤ n → Agree m (next a m) (later a m)) → Agree n (and_then r next) (and_then s later)
agree-then n (Done a m) s next later (e, b) step = let h = step a m b in (h.0 ∙ ap (λ z. and_then z later) e, weaker m n (next a m) b h.1)
agree-then n (Deep m) s next later (e, b) step = (ap (λ z. and_then z later) e, b)
agree-then n (Wrong m) s next later (e, b) step = (ap (λ z. and_then z later) e, b)
agree-then n More s next later (e, b) step = (ap (λ z. and_then z later) e, tt)

agree-given : {A B : Type 0} (o : Option A) (n : ℕ) (next later : A → Answer B) → ((a : A) → Agree n (next a) (later a)) → Agree n (given o n next) (given o n later)
agree-given None n next later step = (refl, omega arith)
agree-given (Some a) n next later step = step a

done : {A : Type 0} (a : A) (n : ℕ) → Agree n (Done a n) (Done a n)
done a n = (refl, omega arith)

agree-made : (t : Tree) (n : ℕ) → Agree n (made t n) (made t n)
agree-made t n = go (nat_le (depth_of t) MAX_DEPTH)
  where
    go : (b : Bool) → Agree n (if b then Done t n else Deep n) (if b then Done t n else Deep n)
    go true = (refl, omega arith)
    go false = (refl, omega arith)

agree-if : (n : ℕ) (b : Bool) (x y u v : Answer Tree) → Agree n x u → Agree n y v → Agree n (if b then x else y) (if b then u else v)
agree-if n true x y u v h k = h
agree-if n false x y u v h k = k

-- callers agree where so many calls at most are left
abbrev CallsAgree : Caller → Caller → ℕ → Type 0
CallsAgree c d most = (x : Name) (vs : List Tree) (n : ℕ) → n ≤ most → Agree n (c x vs n) (d x vs n)

mutual
  agree-value : (w : World) (c d : Caller) → (most : ℕ) → CallsAgree c d most → (a : Expr) (vars : Bindings) (n : ℕ) → n ≤ most → Agree n (value w c a vars n) (value w d a vars n)
  agree-value w c d most h (e.Number at x) vars n l = done _ _
  agree-value w c d most h (e.Character at x) vars n l = done _ _
  agree-value w c d most h (e.Text at text) vars n l = agree-made (text_of text) n
  agree-value w c d most h (e.True at) vars n l = done _ _
  agree-value w c d most h (e.False at) vars n l = done _ _
  agree-value w c d most h (e.Variable at x) vars n l = agree-given (found x vars) n _ _ (λ v. done _ _)
  agree-value w c d most h (e.List at items) vars n l = agree-then _ _ _ _ _ (agree-values w c d most h items vars n l) (λ vs m lm. agree-made (in_front vs Nil) m)
  agree-value w c d most h (e.Cons at a b) vars n l =
      agree-then _ _ _ _ _ (agree-value w c d most h a vars n l) (λ v m lm. agree-then _ _ _ _ _ (agree-value w c d most h b vars m (omega (arith, l, lm))) (λ u k lk. agree-made (Cell v u) k))
  agree-value w c d most h (e.Append at a b) vars n l =
      agree-then _ _ _ _ _ (agree-value w c d most h a vars n l) (λ v m lm. agree-then _ _ _ _ _ (agree-value w c d most h b vars m (omega (arith, l, lm))) (λ u k lk. agree-given (appended v u) k _ _ (λ t. agree-made t k)))
  agree-value w c d most h (e.Pair at a b) vars n l =
      agree-then _ _ _ _ _ (agree-value w c d most h a vars n l) (λ v m lm. agree-then _ _ _ _ _ (agree-value w c d most h b vars m (omega (arith, l, lm))) (λ u k lk. agree-made (Pair v u) k))
  agree-value w c d most h (e.If at a b b2) vars n l =
      agree-then _ _ _ _ _ (agree-value w c d most h a vars n l) (λ v m lm. agree-given (truth v) m _ _ (λ t. agree-if _ t _ _ _ _ (agree-value w c d most h b vars m (omega (arith, l, lm))) (agree-value w c d most h b2 vars m (omega (arith, l, lm)))))
  agree-value w c d most h (e.Case at a rows) vars n l =
      agree-then _ _ _ _ _ (agree-value w c d most h a vars n l) (λ v m lm. agree-given (first_match w (expr_rows rows) (v ∷ [])) m _ _ (λ r. agree-row w c d most h rows r.0 (r.1 ++ vars) m (omega (arith, l, lm))))
  agree-value w c d most h (e.Compare at a op b) vars n l =
      agree-then _ _ _ _ _ (agree-value w c d most h a vars n l) (λ v m lm. agree-then _ _ _ _ _ (agree-value w c d most h b vars m (omega (arith, l, lm))) (λ u k lk. agree-given (compared v u) k _ _ (λ o. done _ _)))
  agree-value w c d most h (e.Or at a b) vars n l =
      agree-then _ _ _ _ _ (agree-value w c d most h a vars n l) (λ v m lm. agree-given (truth v) m _ _ (λ t. agree-if _ t _ _ _ _ (done _ _)
      (agree-then _ _ _ _ _ (agree-value w c d most h b vars m (omega (arith, l, lm))) (λ u k lk. agree-given (truth u) k _ _ (λ s. done _ _)))))
  agree-value w c d most h (e.And at a b) vars n l =
      agree-then _ _ _ _ _ (agree-value w c d most h a vars n l) (λ v m lm. agree-given (truth v) m _ _ (λ t. agree-if _ t _ _ _ _
      (agree-then _ _ _ _ _ (agree-value w c d most h b vars m (omega (arith, l, lm))) (λ u k lk. agree-given (truth u) k _ _ (λ s. done _ _))) (done _ _)))
  agree-value w c d most h (e.Calculate at a op b) vars n l =
      agree-then _ _ _ _ _ (agree-value w c d most h a vars n l) (λ v m lm. agree-then _ _ _ _ _ (agree-value w c d most h b vars m (omega (arith, l, lm))) (λ u k lk. agree-given (int v) k _ _ (λ x. agree-given (int u) k _ _ (λ y. done _ _))))
  agree-value w c d most h (e.Negate at a) vars n l = agree-then _ _ _ _ _ (agree-value w c d most h a vars n l) (λ v m lm. agree-given (int v) m _ _ (λ x. done _ _))
  agree-value w c d most h (e.CodeOf at a) vars n l = agree-then _ _ _ _ _ (agree-value w c d most h a vars n l) (λ v m lm. agree-given (char v) m _ _ (λ x. done _ _))
  agree-value w c d most h (e.CharOf at a) vars n l = agree-then _ _ _ _ _ (agree-value w c d most h a vars n l) (λ v m lm. agree-given (int v) m _ _ (λ x. done _ _))
  agree-value w c d most h (e.Call at x args) vars n l = agree-then _ _ _ _ _ (agree-values w c d most h args vars n l) (λ vs m lm. h x vs m (omega (arith, l, lm)))
  agree-value w c d most h (e.Constructor at x args) vars n l =
      agree-then _ _ _ _ _ (agree-values w c d most h args vars n l) (λ vs m lm. agree-given (number_of w x) m _ _ (λ k. agree-made (built k vs) m))

  agree-values : (w : World) (c d : Caller) → (most : ℕ) → CallsAgree c d most → (all : Exprs) (vars : Bindings) (n : ℕ) → n ≤ most → Agree n (values w c all vars n) (values w d all vars n)
  agree-values w c d most h e.no_exprs vars n l = done _ _
  agree-values w c d most h (e.expr_then a rest) vars n l =
      agree-then _ _ _ _ _ (agree-value w c d most h a vars n l) (λ v m lm. agree-then _ _ _ _ _ (agree-values w c d most h rest vars m (omega (arith, l, lm))) (λ vs k lk. done _ _))

  agree-row : (w : World) (c d : Caller) → (most : ℕ) → CallsAgree c d most → (rows : ExprRows) (i : ℕ) (vars : Bindings) (n : ℕ) → n ≤ most → Agree n (row_value w c rows i vars n) (row_value w d rows i vars n)
  agree-row w c d most h e.no_expr_rows i vars n l = (refl, omega arith)
  agree-row w c d most h (e.expr_row_then p a rows) zero vars n l = agree-value w c d most h a vars n l
  agree-row w c d most h (e.expr_row_then p a rows) (suc i) vars n l = agree-row w c d most h rows i vars n l

agree-body : (w : World) (c d : Caller) → (most : ℕ) → CallsAgree c d most → (f : FunctionDecl) (vs : List Tree) (n : ℕ) → n ≤ most → Agree n (body_value w c f vs n) (body_value w d f vs n)
agree-body w c d most h f vs n l =
    agree-given (first_match w (function_rows f.rows) vs) n _ _ (λ r. agree-given (slice_get f.rows r.0) n _ _ (λ (row : FunctionRow). agree-value w c d most h row.value r.1 n l))

agree-calls : (w : World) (d e : ℕ) (x : Name) (vs : List Tree) (n : ℕ) → n ≤ d → n ≤ e → Agree n (calls w d x vs n) (calls w e x vs n)
agree-calls w zero zero x vs n i j = agree-given (function_named w x) n _ _ (λ f. (refl, tt))
agree-calls w zero (suc e) x vs zero i j = agree-given (function_named w x) 0 _ _ (λ f. (refl, tt))
agree-calls w (suc d) zero x vs zero i j = agree-given (function_named w x) 0 _ _ (λ f. (refl, tt))
agree-calls w (suc d) (suc e) x vs zero i j = agree-given (function_named w x) 0 _ _ (λ f. (refl, tt))
agree-calls w zero (suc e) x vs (suc n) i j = absurd (omega arith)
agree-calls w (suc d) zero x vs (suc n) i j = absurd (omega arith)
agree-calls w (suc d) (suc e) x vs (suc n) i j = agree-given (function_named w x) (suc n) _ _ (λ f. more (agree-body w (calls w d) (calls w e) n (λ y us m l. agree-calls w d e y us m (omega (arith, l, i)) (omega (arith, l, j))) f vs n (omega arith)))
  where
    more : {r s : Answer Tree} → Agree n r s → Agree (suc n) r s
    more {r} (e, b) = (e, weaker n (suc n) r (omega arith) b)

-- a call, as deep as it may go
abbrev pub answers : World → Caller
answers w x vs n = calls w n x vs n

-- a call with calls left spends one, and is the body's value
pub answers-body : (w : World) (x : Name) (vs : List Tree) (n : ℕ) → answers w x vs (suc n) ≡ given (function_named w x) (suc n) (λ f. body_value w (answers w) f vs n)
answers-body w x vs n = go (function_named w x)
  where
    go : (o : Option FunctionDecl) → given o (suc n) (λ f. body_value w (calls w n) f vs n) ≡ given o (suc n) (λ f. body_value w (answers w) f vs n)
    go None = refl
    go (Some f) = (agree-body w (calls w n) (answers w) n (λ y us m l. agree-calls w n m y us m l (omega arith)) f vs n (omega arith)).0

-- and an evaluation makes its calls by that
pub value-answers : (w : World) (a : Expr) (vars : Bindings) (n : ℕ) → value_of w a vars n ≡ value w (answers w) a vars n
value-answers w a vars n = (agree-value w (calls w n) (answers w) n (λ y us m l. agree-calls w n m y us m l (omega arith)) a vars n (omega arith)).0
