-- An expression of a type, under variables that stand for values of their types, is never wrong, and its
-- value is of the type.
use Rattle.std.proofs.Common.{◌≡◌, sym, ap, subst, ℕ, zero, suc, pos, option_map, Bool, true, false, List, [], ◌∷◌, ◌++◌, Some, if◌then◌else◌, map, length, slice_get}
use Rattle.std.specs.Int.{w64, int_wrapping_neg}
use Rattle.campl_tree.specs.Plain.SeqType.{SeqType, SeqTypes}
use Rattle.campl_tree.specs.Plain.SeqType as s
use Rattle.campl_tree.specs.Plain.Expr as e
use Rattle.campl_tree.specs.Plain.Expr.{Expr, Exprs, ExprRows}
use Rattle.campl_tree.specs.Plain.Decl.{FunctionDecl, FunctionRow}
use Rattle.campl_value.specs.Tree.{Tree, Int, Char, Truth, Nil, Cell, Pair, built}
use Rattle.campl_value.specs.Text.{text_of}
use Rattle.campl_value.specs.List.{in_front, appended}
use Rattle.campl_value.specs.Compare.{compared}
use Rattle.campl_types.specs.Names.{Name, found, Within}
use Rattle.campl_types.specs.Substitution.{Filling, filling, filled, variables_of}
use Rattle.campl_types.specs.SameType.{IsSame}
use Rattle.campl_types.specs.Forms as form
use Rattle.campl_types.specs.Forms.{form_of, part_forms}
use Rattle.campl_types.specs.Fits.{Vars}
use Rattle.campl_types.specs.Matching.{Bindings, SomeRowMatches, first_match, row_matched, number_of}
use Rattle.campl_types.specs.Missing.{Row}
use Rattle.campl_types.specs.Sequential.{Way, Found, Checked, HasType, PartsHaveTypes, AllChecked, RowsHaveType, whole, expr_rows, function_rows, AreExhaustive, FunctionIsTyped, RowIsTyped}
use Rattle.campl_types.specs.World.{World, number_in, function_named, names_of, type_parameters, variables_of_list}
use Rattle.campl_types.proofs.TypedRows.{row-at, function-chooses, case-chooses}
use Rattle.campl_evaluation.specs.Evaluation.{Answer, Done, Deep, Wrong, More, and_then, truth, int, char, holds, calculated, char_of, Caller, value, values, row_value, body_value, calls, value_of}
use Rattle.campl_evaluation.specs.Typed.{AreBound, Fine, CallerIsSound}
use Rattle.campl_evaluation.specs.Worlds.{IsSoundWorld}
use Rattle.campl_types.proofs.Instances.{value-of-instance}
use Rattle.campl_evaluation.proofs.Instance.{instances-of}
use Rattle.campl_evaluation.proofs.Bound.{bound-append, bound-found, row-bound, one-bound}
use Rattle.campl_evaluation.proofs.Whole.{built-is}
use Rattle.campl_evaluation.proofs.Forms.{fine-then, fine-given, fine-made, is-truth, is-int, is-char, text-is, append-is, AllOf, list-is, compares}
use Rattle.campl_types.specs.Values.{IsValue, AllAreValues}
use Rattle.campl_types.proofs.Among.{within-once, within-left, within-right}
use Rattle.campl_types.proofs.Compose.{composed, list-composed}
use Rattle.campl_types.proofs.SameValue.{value-of-filled}

-- Expressions

fine-if : (P : Tree → Type 0) (c : Bool) (x y : Answer Tree) → Fine P x → Fine P y → Fine P (if c then x else y)
fine-if P true x y h k = h
fine-if P false x y h k = k

-- one value more
fine-cons : (w : World) (t : SeqType) (r : Answer Tree) (rest : ℕ → Answer (List Tree)) → Fine (λ v. IsValue w v t) r → ((m : ℕ) → Fine (AllOf w t) (rest m))
    → Fine (AllOf w t) (and_then r (λ v m. and_then (rest m) (λ vs k. Done (v ∷ vs) k)))
fine-cons w t r rest h k =
    fine-then (λ v. IsValue w v t) (AllOf w t) r (λ v m. and_then (rest m) (λ vs k. Done (v ∷ vs) k)) h
    (λ v m p. fine-then (AllOf w t) (AllOf w t) (rest m) (λ vs k. Done (v ∷ vs) k) (k m) (λ vs l q. (p, q)))

fine-part : (w : World) (t : SeqType) (ts : List SeqType) (r : Answer Tree) (rest : ℕ → Answer (List Tree)) → Fine (λ v. IsValue w v t) r → ((m : ℕ) → Fine (λ us. AllAreValues w us ts) (rest m))
    → Fine (λ us. AllAreValues w us (t ∷ ts)) (and_then r (λ v m. and_then (rest m) (λ vs k. Done (v ∷ vs) k)))
fine-part w t ts r rest h k =
    fine-then (λ v. IsValue w v t) (λ us. AllAreValues w us (t ∷ ts)) r (λ v m. and_then (rest m) (λ vs k. Done (v ∷ vs) k)) h
    (λ v m p. fine-then (λ us. AllAreValues w us ts) (λ us. AllAreValues w us (t ∷ ts)) (rest m) (λ vs k. Done (v ∷ vs) k) (k m) (λ vs l q. (p, q)))

fine-weaker : (P Q : Tree → Type 0) (r : Answer Tree) → ((v : Tree) → P v → Q v) → Fine P r → Fine Q r
fine-weaker P Q (Done v n) i h = i v h
fine-weaker P Q (Deep n) i h = tt
fine-weaker P Q (Wrong n) i h = absurd h
fine-weaker P Q More i h = tt

-- a call at types that are filled
call-fine : (w : World) (call : Caller) → CallerIsSound w call → (f : Filling) (x : Name) (fd : FunctionDecl) (ts : List SeqType) (us : List Tree) (m : ℕ) (t : SeqType)
    → function_named w x ≡ Some fd → length ts ≡ length (type_parameters fd) → IsSame t (filled (filling (type_parameters fd) ts) fd.result)
    → AllAreValues w us (map (filled f) (map (filled (filling (type_parameters fd) ts)) fd.parameters))
    → Fine (λ v. IsValue w v (filled f t)) (call x us m)
call-fine w call ok f x fd ts us m t i l j p =
    let ps : List Name = type_parameters fd in
    let g : Filling = filling ps (map (filled f) ts) in
    let all : Within (variables_of_list fd.parameters ++ variables_of fd.result) ps = within-once (variables_of_list fd.parameters ++ variables_of fd.result) in
    let args = list-composed f ps ts l fd.parameters (within-left (variables_of_list fd.parameters) (variables_of fd.result) ps all) in
    let result = composed f ps ts l fd.result (within-right (variables_of_list fd.parameters) (variables_of fd.result) ps all) in
    fine-weaker (λ v. IsValue w v (filled g fd.result)) (λ v. IsValue w v (filled f t)) (call x us m)
    (λ v h. value-of-filled w v f t (filled (filling ps ts) fd.result) j (subst (IsValue w v) (sym result) h))
    (ok x fd i g us m (subst (AllAreValues w us) args p))

-- a `case` has a row for each value
case-chosen : (w : World) → IsSoundWorld w → (f : Filling) (rows : ExprRows) (u : SeqType) (v : Tree) → AreExhaustive w (expr_rows rows) (u ∷ []) → IsValue w v (filled f u)
    → SomeRowMatches w (expr_rows rows) (v ∷ [])
case-chosen w good f rows u v x p =
    case-chooses w good.constructors rows u v x (value-of-instance w v f u p)

mutual
  pub sound : (w : World) → IsSoundWorld w → (call : Caller) → CallerIsSound w call → (way : Way) (f : Filling) (vs : Vars) (a : Expr) (t : SeqType) (vars : Bindings) (n : ℕ)
      → AreBound w f vars vs → HasType way w vs a t → Fine (λ v. IsValue w v (filled f t)) (value w call a vars n)
  sound w good call ok way f vs (e.Number at x) t vars n b h = value-of-filled w (Int x) f t s.Int h tt
  sound w good call ok way f vs (e.Character at x) t vars n b h = value-of-filled w (Char x) f t s.Char h tt
  sound w good call ok way f vs (e.Text at text) t vars n b h = fine-made _ (text_of text) n (value-of-filled w (text_of text) f t (s.List s.Char) h (text-is w text))
  sound w good call ok way f vs (e.True at) t vars n b h = value-of-filled w (Truth true) f t s.Bool h tt
  sound w good call ok way f vs (e.False at) t vars n b h = value-of-filled w (Truth false) f t s.Bool h tt
  sound w good call ok way f vs (e.Variable at x) t vars n b (u, i, j) =
      let r = bound-found w f x vars vs u b i in
      fine-given _ (found x vars) r.0 n _ r.1 (value-of-filled w r.0 f t u j r.2)
  sound w good call ok way f vs (e.Cons at a c) t vars n b (u, i, h, k) =
      fine-then _ _ _ _ (sound w good call ok way f vs a u vars n b h)
      (λ v m p. fine-then _ _ _ _ (sound w good call ok Checked f vs c (s.List u) vars m b k)
      (λ x l q. fine-made _ (Cell v x) l (value-of-filled w (Cell v x) f t (s.List u) i (p, q))))
  sound w good call ok Checked f vs (e.List at e.no_exprs) t vars n b (u, i) = fine-made (λ v. IsValue w v (filled f t)) Nil n (value-of-filled w Nil f t (s.List u) i tt)
  sound w good call ok Found f vs (e.List at e.no_exprs) t vars n b h = absurd h
  sound w good call ok way f vs (e.List at (e.expr_then a rest)) t vars n b (u, i, h, k) =
      fine-then (AllOf w (filled f u)) _ (values w call (e.expr_then a rest) vars n) _
      (fine-cons w (filled f u) (value w call a vars n) (values w call rest vars) (sound w good call ok way f vs a u vars n b h) (λ m. sound-items w good call ok f vs rest u vars m b k))
      (λ us m p. fine-made _ (in_front us Nil) m (value-of-filled w (in_front us Nil) f t (s.List u) i (list-is w (filled f u) us p)))
  sound w good call ok way f vs (e.Append at a c) t vars n b (u, i, h, k) =
      fine-then _ _ _ _ (sound w good call ok way f vs a (s.List u) vars n b h)
      (λ v m p. fine-then _ _ _ _ (sound w good call ok Checked f vs c (s.List u) vars m b k)
      (λ x l q. let r = append-is w v x (filled f u) p q in fine-given _ (appended v x) r.0 l _ r.1 (fine-made _ r.0 l (value-of-filled w r.0 f t (s.List u) i r.2))))
  sound w good call ok way f vs (e.Pair at a c) t vars n b (u, y, i, h, k) =
      fine-then _ _ _ _ (sound w good call ok way f vs a u vars n b h)
      (λ v m p. fine-then _ _ _ _ (sound w good call ok way f vs c y vars m b k)
      (λ x l q. fine-made _ (Pair v x) l (value-of-filled w (Pair v x) f t (s.Pair u y) i (p, q))))
  sound w good call ok way f vs (e.If at a c d) t vars n b (h, k, l) =
      fine-then _ _ _ _ (sound w good call ok Checked f vs a s.Bool vars n b h)
      (λ v m p. let r = is-truth w v p in fine-given _ (truth v) r.0 m _ r.1
      (fine-if _ r.0 _ _ (sound w good call ok way f vs c t vars m b k) (sound w good call ok Checked f vs d t vars m b l)))
  sound w good call ok way f vs (e.Case at a rows) t vars n b (u, h, k, x) =
      fine-then _ _ _ _ (sound w good call ok Found f vs a u vars n b h)
      (λ v m p. let r = case-chosen w good f rows u v x p in
      fine-given _ (first_match w (expr_rows rows) (v ∷ [])) r.0 m _ r.1 (sound-row w good call ok way f vs rows u t r.0.0 v r.2 r.0.1 vars m b k r.3 r.4 p))
  sound w good call ok way f vs (e.Compare at a op c) t vars n b (u, can, i, h, k) =
      fine-then _ _ _ _ (sound w good call ok Found f vs a u vars n b h)
      (λ v m p. fine-then _ _ _ _ (sound w good call ok Checked f vs c u vars m b k)
      (λ x l q. let r = compares w f u v x can p q in fine-given _ (compared v x) r.0 l _ r.1 (value-of-filled w (Truth (holds op r.0)) f t s.Bool i tt)))
  sound w good call ok way f vs (e.Or at a c) t vars n b (i, h, k) =
      fine-then _ _ _ _ (sound w good call ok Checked f vs a s.Bool vars n b h)
      (λ v m p. let r = is-truth w v p in fine-given _ (truth v) r.0 m _ r.1
      (fine-if _ r.0 _ _ (value-of-filled w (Truth true) f t s.Bool i tt)
      (fine-then _ _ _ _ (sound w good call ok Checked f vs c s.Bool vars m b k)
      (λ x l q. let y = is-truth w x q in fine-given _ (truth x) y.0 l _ y.1 (value-of-filled w (Truth y.0) f t s.Bool i tt)))))
  sound w good call ok way f vs (e.And at a c) t vars n b (i, h, k) =
      fine-then _ _ _ _ (sound w good call ok Checked f vs a s.Bool vars n b h)
      (λ v m p. let r = is-truth w v p in fine-given _ (truth v) r.0 m _ r.1
      (fine-if _ r.0 _ _
      (fine-then _ _ _ _ (sound w good call ok Checked f vs c s.Bool vars m b k)
      (λ x l q. let y = is-truth w x q in fine-given _ (truth x) y.0 l _ y.1 (value-of-filled w (Truth y.0) f t s.Bool i tt)))
      (value-of-filled w (Truth false) f t s.Bool i tt)))
  sound w good call ok way f vs (e.Calculate at a op c) t vars n b (i, h, k) =
      fine-then _ _ _ _ (sound w good call ok Checked f vs a s.Int vars n b h)
      (λ v m p. fine-then _ _ _ _ (sound w good call ok Checked f vs c s.Int vars m b k)
      (λ x l q. let r = is-int w v p in let y = is-int w x q in
      fine-given _ (int v) r.0 l _ r.1 (fine-given _ (int x) y.0 l _ y.1 (value-of-filled w (Int (calculated op r.0 y.0)) f t s.Int i tt))))
  sound w good call ok way f vs (e.Negate at a) t vars n b (i, h) =
      fine-then _ _ _ _ (sound w good call ok Checked f vs a s.Int vars n b h)
      (λ v m p. let r = is-int w v p in fine-given _ (int v) r.0 m _ r.1 (value-of-filled w (Int (int_wrapping_neg w64 r.0)) f t s.Int i tt))
  sound w good call ok way f vs (e.CodeOf at a) t vars n b (i, h) =
      fine-then _ _ _ _ (sound w good call ok Checked f vs a s.Char vars n b h)
      (λ v m p. let r = is-char w v p in fine-given _ (char v) r.0 m _ r.1 (value-of-filled w (Int (pos r.0)) f t s.Int i tt))
  sound w good call ok way f vs (e.CharOf at a) t vars n b (i, h) =
      fine-then _ _ _ _ (sound w good call ok Checked f vs a s.Int vars n b h)
      (λ v m p. let r = is-int w v p in fine-given _ (int v) r.0 m _ r.1 (value-of-filled w (Char (char_of r.0)) f t s.Char i tt))
  sound w good call ok way f vs (e.Call at x args) t vars n b (fd, i, (ts, l, j, h, k)) =
      fine-then _ _ _ _ (sound-parts w good call ok f vs (filling (type_parameters fd) ts) _ fd.parameters args vars n b h)
      (λ us m p. call-fine w call ok f x fd ts us m t i l j p)
  sound w good call ok way f vs (e.Constructor at x args) t vars n b (d, y, c, i, (ts, l, j, h, k)) =
      fine-then _ _ _ _ (sound-parts w good call ok f vs (filling (names_of d.parameters) ts) _ c.parts args vars n b h)
      (λ us m p. fine-given _ (number_of w x) y m _ (ap (option_map number_in) i)
      (fine-made _ (built y us) m (value-of-filled w (built y us) f t (filled (filling (names_of d.parameters) ts) (whole d)) j (built-is w good f x d y c ts us i l p))))

  -- the elements of a list
  sound-items : (w : World) → IsSoundWorld w → (call : Caller) → CallerIsSound w call → (f : Filling) (vs : Vars) (all : Exprs) (t : SeqType) (vars : Bindings) (n : ℕ)
      → AreBound w f vars vs → AllChecked w vs all t → Fine (AllOf w (filled f t)) (values w call all vars n)
  sound-items w good call ok f vs e.no_exprs t vars n b h = tt
  sound-items w good call ok f vs (e.expr_then a rest) t vars n b (h, k) =
      fine-cons w (filled f t) (value w call a vars n) (values w call rest vars) (sound w good call ok Checked f vs a t vars n b h) (λ m. sound-items w good call ok f vs rest t vars m b k)

  -- the parts of a call
  pub sound-parts : (w : World) → IsSoundWorld w → (call : Caller) → CallerIsSound w call → (f : Filling) (vs : Vars) (fill : Filling) (known : List Name) (ts : List SeqType) (all : Exprs) (vars : Bindings) (n : ℕ)
      → AreBound w f vars vs → PartsHaveTypes w vs fill known ts all → Fine (λ us. AllAreValues w us (map (filled f) (map (filled fill) ts))) (values w call all vars n)
  sound-parts w good call ok f vs fill known [] e.no_exprs vars n b h = tt
  sound-parts w good call ok f vs fill known (t ∷ ts) (e.expr_then a rest) vars n b (h, k) =
      fine-part w (filled f (filled fill t)) (map (filled f) (map (filled fill) ts)) (value w call a vars n) (values w call rest vars)
      (sound w good call ok _ f vs a (filled fill t) vars n b h) (λ m. sound-parts w good call ok f vs fill _ ts rest vars m b k)
  sound-parts w good call ok f vs fill known [] (e.expr_then a rest) vars n b h = absurd h
  sound-parts w good call ok f vs fill known (t ∷ ts) e.no_exprs vars n b h = absurd h

  -- the row that is chosen
  sound-row : (w : World) → IsSoundWorld w → (call : Caller) → CallerIsSound w call → (way : Way) (f : Filling) (vs : Vars) (rows : ExprRows) (u t : SeqType) (i : ℕ) (v : Tree) (row : Row) (xs vars : Bindings) (n : ℕ)
      → AreBound w f vars vs → RowsHaveType way w vs rows u t → slice_get (expr_rows rows) i ≡ Some row → row_matched w row (v ∷ []) ≡ Some xs → IsValue w v (filled f u)
      → Fine (λ r. IsValue w r (filled f t)) (row_value w call rows i (xs ++ vars) n)
  sound-row w good call ok way f vs e.no_expr_rows u t i v row xs vars n b h g m p = absurd (cc g)
  sound-row w good call ok way f vs (e.expr_row_then q a rows) u t zero v row xs vars n b (ys, fit, d, h, k) g m p =
      let same : form_of q ∷ [] ≡ row = cc g in
      let match : row_matched w (form_of q ∷ []) (v ∷ []) ≡ Some xs = subst (λ r. row_matched w r (v ∷ []) ≡ Some xs) (sym same) m in
      sound w good call ok way f (ys ++ vs) a t (xs ++ vars) n (bound-append w f xs vars ys vs (one-bound w good f q u v ys xs fit match p) b) h
  sound-row w good call ok way f vs (e.expr_row_then q a rows) u t (suc i) v row xs vars n b (ys, fit, d, h, k) g m p =
      sound-row w good call ok Checked f vs rows u t i v row xs vars n b k g m p

-- Functions

-- a function's row that is chosen
body-fine : (w : World) → IsSoundWorld w → (call : Caller) → CallerIsSound w call → (fd : FunctionDecl) → FunctionIsTyped w fd → (g : Filling) (us : List Tree) (n : ℕ)
    → AllAreValues w us (map (filled g) fd.parameters) → Fine (λ v. IsValue w v (filled g fd.result)) (body_value w call fd us n)
body-fine w good call ok fd (typed, exhaustive) g us n h = go (function-chooses w good.constructors fd us (typed, exhaustive) (instances-of w us g fd.parameters h))
  where
    go : SomeRowMatches w (function_rows fd.rows) us → Fine (λ v. IsValue w v (filled g fd.result)) (body_value w call fd us n)
    go (r, first, row, at, match) = by (row-at w fd fd.rows r.0 row typed at)
      where
        by : ((q : FunctionRow) × (slice_get fd.rows r.0 ≡ Some q) × (form.list_of (part_forms q.patterns) ≡ row) × RowIsTyped w fd q)
            → Fine (λ v. IsValue w v (filled g fd.result)) (body_value w call fd us n)
        by (q, place, forms, (xs, fit, distinct, has)) =
            let here : row_matched w (form.list_of (part_forms q.patterns)) us ≡ Some r.1 = subst (λ z. row_matched w z us ≡ Some r.1) (sym forms) match in
            fine-given _ (first_match w (function_rows fd.rows) us) r n _ first (fine-given _ (slice_get fd.rows r.0) q n _ place
            (sound w good call ok Checked g xs q.value fd.result r.1 n (row-bound w good g q.patterns fd.parameters us xs r.1 fit here h) has))

-- calls at any depth
pub calls-fine : (w : World) → IsSoundWorld w → (d : ℕ) → CallerIsSound w (calls w d)
calls-fine w good zero x fd i g us n h = fine-given _ (function_named w x) fd n _ i tt
calls-fine w good (suc d) x fd i g us zero h = fine-given _ (function_named w x) fd 0 _ i tt
calls-fine w good (suc d) x fd i g us (suc n) h =
    fine-given _ (function_named w x) fd (suc n) _ i (body-fine w good (calls w d) (calls-fine w good d) fd (good.functions x fd i) g us n h)

pub value-is-fine : (w : World) → IsSoundWorld w → (way : Way) (f : Filling) (vs : Vars) (a : Expr) (t : SeqType) (vars : Bindings) (n : ℕ)
    → AreBound w f vars vs → HasType way w vs a t → Fine (λ v. IsValue w v (filled f t)) (value_of w a vars n)
value-is-fine w good way f vs a t vars n b h = sound w good (calls w n) (calls-fine w good n) way f vs a t vars n b h
