-- What is emitted for each node of an expression.
use Rattle.std.proofs.Common.{◌≡◌, ◌∙◌, refl, sym, ap, ℕ, ℤ, suc, ◌+◌, ◌<◌, ◌≤◌, Bool, true, false, List, [], ◌∷◌, ◌++◌, map, drop, get_or, length, length-append, append_assoc, arith}
use Rattle.std.specs.Prelude.{slice_set}
use Rattle.std.proofs.lemmas.List.{drop_all, append-nil}
use Rattle.campl_tree.specs.declared.place.Place.{Place}
use Rattle.campl_tree.specs.declared.expr.Comparison.{Comparison}
use Rattle.campl_tree.specs.declared.expr.Arithmetic.{Arithmetic}
use Rattle.campl_tree.specs.declared.expr.Expr.{Expr}
use Rattle.campl_tree.specs.declared.expr.Expr.TheVariants as expr
use Rattle.campl_tree.specs.declared.expr.ExprRow.{ExprRow}
use Rattle.campl_tree.specs.Plain.Expr as e
use Rattle.campl_tree.specs.Plain.Expr.{Exprs, ExprRows}
use Rattle.campl_tree.specs.Plain.Pattern.{Pattern}
use Rattle.campl_tree.specs.View.{view_expr, view_pattern, exprs, view_expr_row, expr_rows}
use Rattle.campl_tree.proofs.Views.{view_expr_row-out, view_expr-If, view_expr-Case, view_expr-Or, view_expr-And, view_expr-Compare, view_expr-Cons, view_expr-Append, view_expr-Calculate, view_expr-Negate, view_expr-Number, view_expr-Character, view_expr-Text, view_expr-True, view_expr-False, view_expr-Variable, view_expr-Call, view_expr-CodeOf, view_expr-CharOf, view_expr-Constructor, view_expr-List, view_expr-Pair}
use Rattle.campl_types.specs.Names.{Name, found}
use Rattle.campl_types.specs.World.{World}
use Rattle.campl_types.specs.Matching.{number_of}
use Rattle.campl_types.specs.Patterns.{bound_in}
use Rattle.campl_code.specs.CaseDecisions.{cases_in, cases_in_all, cases_in_rows}
use Rattle.campl_code.specs.Generated.{last, past, leave, tested_code, conses_code, code_of, code_of_all, code_of_rows, places_of, function_number, or_zero}
use Rattle.campl_code.specs.Instructions as i
use Rattle.campl_code.specs.Instructions.{Instr}
use Rattle.campl_code.specs.Numbers.{Numbers, numbered}
use Rattle.campl_code.specs.Stands.{count}
use Rattle.campl_gen_exprs.specs.Emission.{Emission, appended, replaced, written, all_set, ends_set, binding, shortened, emitted, emitted_all, emitted_two, emitted_one, emitted_list, emitted_over, emitted_if, emitted_and, emitted_or, row_emitted, rows_emitted, row_places, row_ends, emitted_case}
use Rattle.campl_gen_exprs.proofs.Bindings.{forgotten}
use Rattle.campl_gen_exprs.proofs.Places.{set-at, two-code, if-code, and-code, or-code}
use Rattle.campl_seqcheck.proofs.Answered.{drop-at}
use Rattle.campl_seqcheck.specs.Steps.{weight}

-- the same code and as many decisions
same : (s : Emission) (c d : List Instr) (m n : ℕ) → c ≡ d → m ≡ n → record s { code = c; decisions = m } ≡ record s { code = d; decisions = n }
same s c d m n h k = ap (λ l. record s { code = l; decisions = m }) h ∙ ap (λ l. record s { code = d; decisions = l }) k

-- what no decision is for
none-more : (n : ℕ) → n ≡ n + 0
none-more n = omega arith

leaf : (w : World) (tail : Bool) (a : e.Expr) (x : Instr) (s : Emission)
    → code_of w tail a (length s.code) s.decisions s.free s.numbers ≡ x ∷ last tail → cases_in a ≡ 0 → emitted w tail a s ≡ appended (x ∷ last tail) s
unfolding emitted
leaf w tail a x s h k =
    same s (s.code ++ code_of w tail a (length s.code) s.decisions s.free s.numbers) (s.code ++ (x ∷ last tail)) (s.decisions + cases_in a) s.decisions
    (ap (λ l. s.code ++ l) h) (ap (λ n. s.decisions + n) k ∙ sym (none-more s.decisions))

two : (w : World) (tail : Bool) (a b : e.Expr) (op : Instr) (s : Emission) → emitted_two w a b op tail s
    ≡ record s {
      code = s.code ++ (code_of w false a (length s.code) s.decisions s.free s.numbers
          ++ (code_of w false b (length s.code + length (code_of w false a (length s.code) s.decisions s.free s.numbers)) (s.decisions + cases_in a) s.free s.numbers ++ (op ∷ last tail)));
      decisions = s.decisions + (cases_in a + cases_in b);
    }
unfolding emitted
two w tail a b op s =
    let x = code_of w false a (length s.code) s.decisions s.free s.numbers in
    let q : ℕ → List Instr = λ n. code_of w false b n (s.decisions + cases_in a) s.free s.numbers in
    same s (((s.code ++ x) ++ q (length (s.code ++ x))) ++ (op ∷ last tail)) (s.code ++ (x ++ (q (length s.code + length x) ++ (op ∷ last tail))))
    (s.decisions + cases_in a + cases_in b) (s.decisions + (cases_in a + cases_in b)) (two-code s.code x q (op ∷ last tail)) (omega arith)

one : (w : World) (tail : Bool) (a : e.Expr) (op : Instr) (s : Emission) → emitted_one w a op tail s
    ≡ record s { code = s.code ++ (code_of w false a (length s.code) s.decisions s.free s.numbers ++ (op ∷ last tail)); decisions = s.decisions + cases_in a }
unfolding emitted
one w tail a op s =
    let x = code_of w false a (length s.code) s.decisions s.free s.numbers in
    ap (λ l. record s { code = l; decisions = s.decisions + cases_in a }) (append_assoc s.code x (op ∷ last tail))

over : (w : World) (tail : Bool) (args : Exprs) (x : Instr) (s : Emission) → emitted_over w args x tail s
    ≡ record s { code = s.code ++ (code_of_all w args (length s.code) s.decisions s.free s.numbers ++ (x ∷ last tail)); decisions = s.decisions + cases_in_all args }
unfolding emitted_all
over w tail args x s =
    let y = code_of_all w args (length s.code) s.decisions s.free s.numbers in
    ap (λ l. record s { code = l; decisions = s.decisions + cases_in_all args }) (append_assoc s.code y (x ∷ last tail))

listed : (w : World) (tail : Bool) (items : Exprs) (s : Emission) → emitted_list w items tail s
    ≡ record s {
      code = s.code ++ (code_of_all w items (length s.code) s.decisions s.free s.numbers ++ (i.Nil ∷ conses_code (count items) tail));
      decisions = s.decisions + cases_in_all items;
    }
unfolding emitted_all
listed w tail items s =
    let y = code_of_all w items (length s.code) s.decisions s.free s.numbers in
    ap (λ l. record s { code = l; decisions = s.decisions + cases_in_all items })
    (append_assoc (s.code ++ y) (i.Nil ∷ []) (conses_code (count items) tail) ∙ append_assoc s.code y (i.Nil ∷ conses_code (count items) tail))

if-is : (w : World) (tail : Bool) (at : Place) (a b c : e.Expr) (s : Emission) → emitted w tail (e.If at a b c) s ≡ emitted_if w a b c tail s
unfolding emitted
if-is w tail at a b c s =
    let z = code_of w false a (length s.code) s.decisions s.free s.numbers in
    let p : ℕ → List Instr = λ n. code_of w tail b n (s.decisions + cases_in a) s.free s.numbers in
    let q : ℕ → List Instr = λ n. code_of w tail c n (s.decisions + cases_in a + cases_in b) s.free s.numbers in
    let l1 = s.code ++ z in
    let l2 = l1 ++ i.Unless 0 ∷ [] in
    let l3 = l2 ++ p (length l2) in
    let l4 = l3 ++ past tail 0 in
    let l5 = l4 ++ q (length l4) in
    sym (same s (written tail (slice_set l5 (length l1) (i.Unless (length l4))) (length l3) (length l5)) (s.code ++ code_of w tail (e.If at a b c) (length s.code) s.decisions s.free s.numbers)
    (s.decisions + cases_in a + cases_in b + cases_in c) (s.decisions + (cases_in a + cases_in b + cases_in c))
    (if-code tail s.code z p q l1 l2 l3 l4 l5 refl refl refl refl refl) (omega arith))

and-is : (w : World) (tail : Bool) (at : Place) (a b : e.Expr) (s : Emission) → emitted w tail (e.And at a b) s ≡ emitted_and w a b tail s
unfolding emitted
and-is w tail at a b s =
    let z = code_of w false a (length s.code) s.decisions s.free s.numbers in
    let q : ℕ → List Instr = λ n. code_of w false b n (s.decisions + cases_in a) s.free s.numbers in
    let l1 = s.code ++ z in
    let l2 = l1 ++ i.Unless 0 ∷ [] in
    let l3 = l2 ++ q (length l2) in
    let l4 = l3 ++ tested_code (length l3) tail in
    sym (same s (slice_set l4 (length l1) (i.Unless (length l3 + 3))) (s.code ++ code_of w tail (e.And at a b) (length s.code) s.decisions s.free s.numbers)
    (s.decisions + cases_in a + cases_in b) (s.decisions + (cases_in a + cases_in b)) (and-code tail s.code z q l1 l2 l3 l4 refl refl refl refl) (omega arith))

or-is : (w : World) (tail : Bool) (at : Place) (a b : e.Expr) (s : Emission) → emitted w tail (e.Or at a b) s ≡ emitted_or w a b tail s
unfolding emitted
or-is w tail at a b s =
    let z = code_of w false a (length s.code) s.decisions s.free s.numbers in
    let q : ℕ → List Instr = λ n. code_of w false b n (s.decisions + cases_in a) s.free s.numbers in
    let l1 = s.code ++ z in
    let l2 = l1 ++ i.Unless (length l1 + 3) ∷ i.Truth true ∷ [] in
    let l3 = l2 ++ leave tail 0 ∷ [] in
    let l4 = l3 ++ q (length l3) in
    let l5 = l4 ++ tested_code (length l4) tail in
    sym (same s (written tail l5 (length l2) (length l4 + 4)) (s.code ++ code_of w tail (e.Or at a b) (length s.code) s.decisions s.free s.numbers)
    (s.decisions + cases_in a + cases_in b) (s.decisions + (cases_in a + cases_in b)) (or-code tail s.code z q l1 l2 l3 l4 l5 refl refl refl refl refl) (omega arith))

-- Rows

-- the code of rows from a state on, whose jumps lead to this place
rows-code : World → Bool → ExprRows → Emission → ℕ → List Instr
rows-code w tail rows s end = code_of_rows w tail rows (length s.code) s.decisions s.free s.numbers end

row-length : (tail : Bool) (old x : List Instr) → length ((old ++ x) ++ past tail 0) ≡ length old + length x + length (past tail 0)
row-length tail old x = length-append (old ++ x) (past tail 0) ∙ ap (λ n. n + length (past tail 0)) (length-append old x)

abbrev value-code : World → Bool → Pattern → e.Expr → Emission → List Instr
value-code w tail p a s = code_of w tail a (length s.code) s.decisions (s.free + length (bound_in p)) (numbered s.free (bound_in p) s.numbers)

-- the state behind a row
abbrev behind-row : World → Bool → Pattern → e.Expr → Emission → Emission
behind-row w tail p a s = record s { code = (s.code ++ value-code w tail p a s) ++ past tail 0; decisions = s.decisions + cases_in a }

row-is : (w : World) (tail : Bool) (p : Pattern) (a : e.Expr) (s : Emission) → appended (past tail 0) (row_emitted w tail p a s) ≡ behind-row w tail p a s
unfolding emitted binding
row-is w tail p a s = refl

row-ends-at : (w : World) (tail : Bool) (p : Pattern) (a : e.Expr) (s : Emission) → length (row_emitted w tail p a s).code ≡ length (s.code ++ value-code w tail p a s)
unfolding emitted binding
row-ends-at w tail p a s = refl

rows-is : (w : World) (tail : Bool) (rows : ExprRows) (s : Emission) → rows_emitted w tail rows s
    ≡ record s { code = s.code ++ code_of_rows w tail rows (length s.code) s.decisions s.free s.numbers 0; decisions = s.decisions + cases_in_rows rows }
rows-is w tail e.no_expr_rows s = same s s.code (s.code ++ []) s.decisions (s.decisions + 0) (sym (append-nil s.code)) (none-more s.decisions)
rows-is w tail (e.expr_row_then p a rows) s =
    let x = value-code w tail p a s in
    let v = behind-row w tail p a s in
    let rest : ℕ → List Instr = λ n. code_of_rows w tail rows n (s.decisions + cases_in a) s.free s.numbers 0 in
    ap (rows_emitted w tail rows) (row-is w tail p a s) ∙ rows-is w tail rows v
    ∙ same s (((s.code ++ x) ++ past tail 0) ++ rest (length ((s.code ++ x) ++ past tail 0))) (s.code ++ (x ++ (past tail 0 ++ rest (length s.code + length x + length (past tail 0)))))
    (s.decisions + cases_in a + cases_in_rows rows) (s.decisions + (cases_in a + cases_in_rows rows))
    (ap (λ n. ((s.code ++ x) ++ past tail 0) ++ rest n) (row-length tail s.code x)
    ∙ append_assoc (s.code ++ x) (past tail 0) (rest (length s.code + length x + length (past tail 0)))
    ∙ append_assoc s.code x (past tail 0 ++ rest (length s.code + length x + length (past tail 0)))) (omega arith)

places-is : (w : World) (tail : Bool) (rows : ExprRows) (s : Emission) → row_places w tail rows s ≡ places_of w tail rows (length s.code) s.decisions s.free s.numbers
places-is w tail e.no_expr_rows s = refl
places-is w tail (e.expr_row_then p a rows) s =
    let x = value-code w tail p a s in
    ap (λ l. length s.code ∷ l)
    (ap (row_places w tail rows) (row-is w tail p a s) ∙ places-is w tail rows (behind-row w tail p a s)
    ∙ ap (λ n. places_of w tail rows n (s.decisions + cases_in a) s.free s.numbers) (row-length tail s.code x))

-- rows that return have no jumps
returns-so : (w : World) (rows : ExprRows) (base dec free : ℕ) (ns : Numbers) (end : ℕ) → code_of_rows w true rows base dec free ns 0 ≡ code_of_rows w true rows base dec free ns end
returns-so w e.no_expr_rows base dec free ns end = refl
returns-so w (e.expr_row_then p a rows) base dec free ns end =
    let x = code_of w true a base dec (free + length (bound_in p)) (numbered free (bound_in p) ns) in
    ap (λ l. x ++ l) (returns-so w rows (base + length x + 0) (dec + cases_in a) free ns end)

-- the others' are written behind whatever is as long as what stood before them
ends-is : (w : World) (rows : ExprRows) (s : Emission) (before : List Instr) (end : ℕ) → length before ≡ length s.code
    → all_set (row_ends w false rows s) (i.Jump end) (before ++ code_of_rows w false rows (length s.code) s.decisions s.free s.numbers 0)
    ≡ before ++ code_of_rows w false rows (length s.code) s.decisions s.free s.numbers end
ends-is w e.no_expr_rows s before end long = refl
ends-is w (e.expr_row_then p a rows) s before end long =
    let x = value-code w false p a s in
    let v = behind-row w false p a s in
    let n = length s.code + length x + 1 in
    let rest : ℕ → List Instr = λ to. code_of_rows w false rows n (s.decisions + cases_in a) s.free s.numbers to in
    let here : length (before ++ x) ≡ length (s.code ++ x) = length-append before x ∙ ap (λ k. k + length x) long ∙ sym (length-append s.code x) in
    let next = (before ++ x) ++ i.Jump end ∷ [] in
    let nv : length v.code ≡ n = row-length false s.code x in
    let set : slice_set (before ++ (x ++ (i.Jump 0 ∷ rest 0))) (length (s.code ++ x)) (i.Jump end) ≡ next ++ rest 0 =
    ap (λ l. slice_set l (length (s.code ++ x)) (i.Jump end)) (sym (append_assoc before x (i.Jump 0 ∷ rest 0)))
    ∙ ap (λ k. slice_set ((before ++ x) ++ (i.Jump 0 ∷ rest 0)) k (i.Jump end)) (sym here)
    ∙ set-at (before ++ x) (rest 0) (i.Jump 0) (i.Jump end) ∙ sym (append_assoc (before ++ x) (i.Jump end ∷ []) (rest 0)) in
    let as-long : length next ≡ length v.code =
    length-append (before ++ x) (i.Jump end ∷ []) ∙ ap (λ k. k + 1) here ∙ sym (length-append (s.code ++ x) (i.Jump 0 ∷ [])) in
    let later : all_set (row_ends w false rows v) (i.Jump end) (next ++ rest 0) ≡ next ++ rest end =
    ap (λ k. all_set (row_ends w false rows v) (i.Jump end) (next ++ code_of_rows w false rows k (s.decisions + cases_in a) s.free s.numbers 0)) (sym nv)
    ∙ ends-is w rows v next end as-long
    ∙ ap (λ k. next ++ code_of_rows w false rows k (s.decisions + cases_in a) s.free s.numbers end) nv in
    ap (λ k. all_set (k ∷ row_ends w false rows (appended (past false 0) (row_emitted w false p a s))) (i.Jump end) (before ++ (x ++ (i.Jump 0 ∷ rest 0)))) (row-ends-at w false p a s)
    ∙ ap (λ l. all_set (row_ends w false rows (appended (past false 0) (row_emitted w false p a s))) (i.Jump end) l) set
    ∙ ap (λ u. all_set (row_ends w false rows u) (i.Jump end) (next ++ rest 0)) (row-is w false p a s)
    ∙ later ∙ append_assoc (before ++ x) (i.Jump end ∷ []) (rest end) ∙ append_assoc before x (i.Jump end ∷ rest end)

-- behind the rows the jumps lead to the end
closed-rows : (w : World) (tail : Bool) (rows : ExprRows) (s : Emission) → ends_set tail (row_ends w tail rows s) (rows_emitted w tail rows s)
    ≡ record s {
      code = s.code ++ code_of_rows w tail rows (length s.code) s.decisions s.free s.numbers (length s.code + length (code_of_rows w tail rows (length s.code) s.decisions s.free s.numbers 0));
      decisions = s.decisions + cases_in_rows rows;
    }
closed-rows w true rows s =
    rows-is w true rows s
    ∙ ap (λ l. record s { code = s.code ++ l; decisions = s.decisions + cases_in_rows rows })
    (returns-so w rows (length s.code) s.decisions s.free s.numbers (length s.code + length (code_of_rows w true rows (length s.code) s.decisions s.free s.numbers 0)))
closed-rows w false rows s =
    let made = s.code ++ code_of_rows w false rows (length s.code) s.decisions s.free s.numbers 0 in
    let end = length s.code + length (code_of_rows w false rows (length s.code) s.decisions s.free s.numbers 0) in
    ap (ends_set false (row_ends w false rows s)) (rows-is w false rows s)
    ∙ ap (λ n. record s { code = all_set (row_ends w false rows s) (i.Jump n) made; decisions = s.decisions + cases_in_rows rows }) (length-append s.code (code_of_rows w false rows (length s.code) s.decisions s.free s.numbers 0))
    ∙ ap (λ l. record s { code = l; decisions = s.decisions + cases_in_rows rows }) (ends-is w rows s s.code end refl)

case-is : (w : World) (tail : Bool) (at : Place) (a : e.Expr) (rows : ExprRows) (s : Emission) → emitted w tail (e.Case at a rows) s ≡ emitted_case w a rows tail s
unfolding emitted
case-is w tail at a rows s =
    let z = code_of w false a (length s.code) s.decisions s.free s.numbers in
    let d = s.decisions + cases_in a in
    let l1 = s.code ++ z in
    let u = record s { code = l1 ++ i.Nil ∷ []; decisions = d + 1 } in
    let q = length s.code + length z + 1 in
    let nu : length u.code ≡ q = length-append l1 (i.Nil ∷ []) ∙ ap (λ n. n + 1) (length-append s.code z) in
    let rows-at : ℕ → ℕ → List Instr = λ n to. code_of_rows w tail rows n (d + 1) s.free s.numbers to in
    let end : ℕ → ℕ = λ n. n + length (rows-at n 0) in
    let places : ℕ → List ℕ = λ n. places_of w tail rows n (d + 1) s.free s.numbers in
    let c1 = (l1 ++ i.Nil ∷ []) ++ rows-at (length u.code) (end (length u.code)) in
    let match-at : ℕ → List Instr = λ n. s.code ++ (z ++ (i.Match d s.free (places n) ∷ rows-at n (end n))) in
    let kept : (rows_emitted w tail rows u).free ≡ s.free = ap (λ (c : Emission). c.free) (rows-is w tail rows u) in
    sym (ap (λ n. replaced (length l1) (i.Match d n (row_places w tail rows u)) (ends_set tail (row_ends w tail rows u) (rows_emitted w tail rows u))) kept
    ∙ ap (λ c. replaced (length l1) (i.Match d s.free (row_places w tail rows u)) c) (closed-rows w tail rows u)
    ∙ same s (slice_set c1 (length l1) (i.Match d s.free (row_places w tail rows u))) (match-at q) (d + 1 + cases_in_rows rows) (s.decisions + (cases_in a + 1 + cases_in_rows rows))
    (ap (λ l. slice_set l (length l1) (i.Match d s.free (row_places w tail rows u))) (append_assoc l1 (i.Nil ∷ []) (rows-at (length u.code) (end (length u.code))))
    ∙ set-at l1 (rows-at (length u.code) (end (length u.code))) i.Nil (i.Match d s.free (row_places w tail rows u))
    ∙ append_assoc s.code z (i.Match d s.free (row_places w tail rows u) ∷ rows-at (length u.code) (end (length u.code)))
    ∙ ap (λ l. s.code ++ (z ++ (i.Match d s.free l ∷ rows-at (length u.code) (end (length u.code))))) (places-is w tail rows u)
    ∙ ap match-at nu) (omega arith))

-- Nodes of the trees in memory

module _ (w : World) (tail : Bool) (s : Emission) (at : Place) where
  pub emitted-If : (a b c : Expr) → emitted w tail (view_expr (expr.If at a b c)) s ≡ emitted_if w (view_expr a) (view_expr b) (view_expr c) tail s
  unfolding emitted emitted_all
  emitted-If a b c = ap (λ q. emitted w tail q s) (view_expr-If at a b c) ∙ if-is w tail at (view_expr a) (view_expr b) (view_expr c) s

  pub emitted-Case : (a : Expr) (rows : List ExprRow) → emitted w tail (view_expr (expr.Case at a rows)) s ≡ emitted_case w (view_expr a) (expr_rows (map view_expr_row rows)) tail s
  unfolding emitted emitted_all
  emitted-Case a rows = ap (λ q. emitted w tail q s) (view_expr-Case at a rows) ∙ case-is w tail at (view_expr a) (expr_rows (map view_expr_row rows)) s

  pub emitted-Or : (a b : Expr) → emitted w tail (view_expr (expr.Or at a b)) s ≡ emitted_or w (view_expr a) (view_expr b) tail s
  unfolding emitted emitted_all
  emitted-Or a b = ap (λ q. emitted w tail q s) (view_expr-Or at a b) ∙ or-is w tail at (view_expr a) (view_expr b) s

  pub emitted-And : (a b : Expr) → emitted w tail (view_expr (expr.And at a b)) s ≡ emitted_and w (view_expr a) (view_expr b) tail s
  unfolding emitted emitted_all
  emitted-And a b = ap (λ q. emitted w tail q s) (view_expr-And at a b) ∙ and-is w tail at (view_expr a) (view_expr b) s

  pub emitted-Compare : (a : Expr) (op : Comparison) (b : Expr) → emitted w tail (view_expr (expr.Compare at a op b)) s ≡ emitted_two w (view_expr a) (view_expr b) (i.Op (i.Compare op)) tail s
  unfolding emitted emitted_all
  emitted-Compare a op b = ap (λ q. emitted w tail q s) (view_expr-Compare at a op b) ∙ sym (two w tail (view_expr a) (view_expr b) (i.Op (i.Compare op)) s)

  pub emitted-Cons : (a b : Expr) → emitted w tail (view_expr (expr.Cons at a b)) s ≡ emitted_two w (view_expr a) (view_expr b) i.Cons tail s
  unfolding emitted emitted_all
  emitted-Cons a b = ap (λ q. emitted w tail q s) (view_expr-Cons at a b) ∙ sym (two w tail (view_expr a) (view_expr b) i.Cons s)

  pub emitted-Append : (a b : Expr) → emitted w tail (view_expr (expr.Append at a b)) s ≡ emitted_two w (view_expr a) (view_expr b) (i.Op i.Append) tail s
  unfolding emitted emitted_all
  emitted-Append a b = ap (λ q. emitted w tail q s) (view_expr-Append at a b) ∙ sym (two w tail (view_expr a) (view_expr b) (i.Op i.Append) s)

  pub emitted-Calculate : (a : Expr) (op : Arithmetic) (b : Expr) → emitted w tail (view_expr (expr.Calculate at a op b)) s ≡ emitted_two w (view_expr a) (view_expr b) (i.Op (i.Calculate op)) tail s
  unfolding emitted emitted_all
  emitted-Calculate a op b = ap (λ q. emitted w tail q s) (view_expr-Calculate at a op b) ∙ sym (two w tail (view_expr a) (view_expr b) (i.Op (i.Calculate op)) s)

  pub emitted-Pair : (a b : Expr) → emitted w tail (view_expr (expr.Pair at a b)) s ≡ emitted_two w (view_expr a) (view_expr b) i.Pair tail s
  unfolding emitted emitted_all
  emitted-Pair a b = ap (λ q. emitted w tail q s) (view_expr-Pair at a b) ∙ sym (two w tail (view_expr a) (view_expr b) i.Pair s)

  pub emitted-Negate : (a : Expr) → emitted w tail (view_expr (expr.Negate at a)) s ≡ emitted_one w (view_expr a) (i.Op i.Negate) tail s
  unfolding emitted emitted_all
  emitted-Negate a = ap (λ q. emitted w tail q s) (view_expr-Negate at a) ∙ sym (one w tail (view_expr a) (i.Op i.Negate) s)

  pub emitted-CodeOf : (a : Expr) → emitted w tail (view_expr (expr.CodeOf at a)) s ≡ emitted_one w (view_expr a) (i.Op i.CodeOf) tail s
  unfolding emitted emitted_all
  emitted-CodeOf a = ap (λ q. emitted w tail q s) (view_expr-CodeOf at a) ∙ sym (one w tail (view_expr a) (i.Op i.CodeOf) s)

  pub emitted-CharOf : (a : Expr) → emitted w tail (view_expr (expr.CharOf at a)) s ≡ emitted_one w (view_expr a) (i.Op i.CharOf) tail s
  unfolding emitted emitted_all
  emitted-CharOf a = ap (λ q. emitted w tail q s) (view_expr-CharOf at a) ∙ sym (one w tail (view_expr a) (i.Op i.CharOf) s)

  pub emitted-Number : (n : ℤ) → emitted w tail (view_expr (expr.Number at n)) s ≡ appended (i.Int n ∷ last tail) s
  unfolding emitted emitted_all
  emitted-Number n = ap (λ q. emitted w tail q s) (view_expr-Number at n) ∙ leaf w tail (e.Number at n) (i.Int n) s refl refl

  pub emitted-Character : (c : ℕ) → emitted w tail (view_expr (expr.Character at c)) s ≡ appended (i.Char c ∷ last tail) s
  unfolding emitted emitted_all
  emitted-Character c = ap (λ q. emitted w tail q s) (view_expr-Character at c) ∙ leaf w tail (e.Character at c) (i.Char c) s refl refl

  pub emitted-Text : (text : List ℕ) → emitted w tail (view_expr (expr.Text at text)) s ≡ appended (i.Text text ∷ last tail) s
  unfolding emitted emitted_all
  emitted-Text text = ap (λ q. emitted w tail q s) (view_expr-Text at text) ∙ leaf w tail (e.Text at text) (i.Text text) s refl refl

  pub emitted-True : emitted w tail (view_expr (expr.True at)) s ≡ appended (i.Truth true ∷ last tail) s
  unfolding emitted emitted_all
  emitted-True = ap (λ q. emitted w tail q s) (view_expr-True at) ∙ leaf w tail (e.True at) (i.Truth true) s refl refl

  pub emitted-False : emitted w tail (view_expr (expr.False at)) s ≡ appended (i.Truth false ∷ last tail) s
  unfolding emitted emitted_all
  emitted-False = ap (λ q. emitted w tail q s) (view_expr-False at) ∙ leaf w tail (e.False at) (i.Truth false) s refl refl

  pub emitted-Variable : (x : Name) → emitted w tail (view_expr (expr.Variable at x)) s ≡ appended (i.Load (or_zero (found x s.numbers)) ∷ last tail) s
  unfolding emitted emitted_all
  emitted-Variable x = ap (λ q. emitted w tail q s) (view_expr-Variable at x) ∙ leaf w tail (e.Variable at x) (i.Load (or_zero (found x s.numbers))) s refl refl

  pub emitted-Call : (x : Name) (args : List Expr) → emitted w tail (view_expr (expr.Call at x args)) s ≡ emitted_over w (exprs (map view_expr args)) (i.Call (or_zero (function_number w x))) tail s
  unfolding emitted emitted_all
  emitted-Call x args = ap (λ q. emitted w tail q s) (view_expr-Call at x args) ∙ sym (over w tail (exprs (map view_expr args)) (i.Call (or_zero (function_number w x))) s)

  pub emitted-Constructor : (x : Name) (args : List Expr) → emitted w tail (view_expr (expr.Constructor at x args)) s ≡ emitted_over w (exprs (map view_expr args)) (i.Build (or_zero (number_of w x)) (count (exprs (map view_expr args)))) tail s
  unfolding emitted emitted_all
  emitted-Constructor x args = ap (λ q. emitted w tail q s) (view_expr-Constructor at x args) ∙ sym (over w tail (exprs (map view_expr args)) (i.Build (or_zero (number_of w x)) (count (exprs (map view_expr args)))) s)

  pub emitted-List : (args : List Expr) → emitted w tail (view_expr (expr.List at args)) s ≡ emitted_list w (exprs (map view_expr args)) tail s
  unfolding emitted emitted_all
  emitted-List args = ap (λ q. emitted w tail q s) (view_expr-List at args) ∙ sym (listed w tail (exprs (map view_expr args)) s)

pub ruleset nodes = (emitted-If, emitted-Case, emitted-Or, emitted-And, emitted-Compare, emitted-Cons, emitted-Append, emitted-Calculate, emitted-Negate, emitted-Number, emitted-Character, emitted-Text, emitted-True, emitted-False, emitted-Variable, emitted-Call, emitted-CodeOf, emitted-CharOf, emitted-Constructor, emitted-List, emitted-Pair)

-- Lists

pub count-all : (xs : List Expr) → count (exprs (map view_expr xs)) ≡ length xs
count-all [] = refl
count-all (x ∷ xs) = ap suc (count-all xs)

pub ruleset counts = (count-all)

then-all : (w : World) (a : e.Expr) (rest : Exprs) (s : Emission) → emitted_all w (e.expr_then a rest) s ≡ emitted_all w rest (emitted w false a s)
unfolding emitted emitted_all
then-all w a rest s =
    let x = code_of w false a (length s.code) s.decisions s.free s.numbers in
    let q : ℕ → List Instr = λ n. code_of_all w rest n (s.decisions + cases_in a) s.free s.numbers in
    sym (same s ((s.code ++ x) ++ q (length (s.code ++ x))) (s.code ++ (x ++ q (length s.code + length x))) (s.decisions + cases_in a + cases_in_all rest) (s.decisions + (cases_in a + cases_in_all rest))
    (ap (λ n. (s.code ++ x) ++ q n) (length-append s.code x) ∙ append_assoc s.code x (q (length s.code + length x))) (omega arith))

pub all-at : (w : World) (s : Emission) (xs : List Expr) (i : ℕ) (x : Expr) → i < length xs → x ≡ get_or xs i x
    → emitted_all w (exprs (map view_expr (drop i xs))) s ≡ emitted_all w (exprs (map view_expr (drop (i + 1) xs))) (emitted w false (view_expr x) s)
all-at w s xs i x l is = ap (λ ys. emitted_all w (exprs (map view_expr ys)) s) (drop-at xs i x l is) ∙ then-all w (view_expr x) (exprs (map view_expr (drop (i + 1) xs))) s

pub all-end : (w : World) (s : Emission) (xs : List Expr) (i : ℕ) → length xs ≤ i → emitted_all w (exprs (map view_expr (drop i xs))) s ≡ s
unfolding emitted_all
all-end w s xs i l = ap (λ ys. emitted_all w (exprs (map view_expr ys)) s) (drop_all i xs l) ∙ same s (s.code ++ []) s.code (s.decisions + 0) s.decisions (append-nil s.code) (sym (none-more s.decisions))

-- Rows

pub rows-at : (rows : List ExprRow) (i : ℕ) (r : ExprRow) → i < length rows → r ≡ get_or rows i r
    → expr_rows (map view_expr_row (drop i rows)) ≡ e.expr_row_then (view_expr_row r).0 (view_expr_row r).1 (expr_rows (map view_expr_row (drop (i + 1) rows)))
rows-at rows i r l is = ap (λ ys. expr_rows (map view_expr_row ys)) (drop-at rows i r l is)

pub rows-end : (rows : List ExprRow) (i : ℕ) → length rows ≤ i → expr_rows (map view_expr_row (drop i rows)) ≡ e.no_expr_rows
rows-end rows i l = ap (λ ys. expr_rows (map view_expr_row ys)) (drop_all i rows l)

-- behind a row the variables are those of before
pub row-left : (w : World) (tail : Bool) (r : ExprRow) (s : Emission)
    → shortened (length s.numbers) s.free (emitted w tail (view_expr r.value) (binding (view_pattern r.pattern) s)) ≡ row_emitted w tail (view_expr_row r).0 (view_expr_row r).1 s
unfolding emitted binding
row-left w tail r s =
    let xs = bound_in (view_pattern r.pattern) in
    let x = code_of w tail (view_expr r.value) (length s.code) s.decisions (s.free + length xs) (numbered s.free xs s.numbers) in
    ap (λ ns. record { code = s.code ++ x; decisions = s.decisions + cases_in (view_expr r.value); free = s.free; numbers = ns }) (forgotten s.free xs s.numbers)
    ∙ ap (λ (q : Pattern × e.Expr). row_emitted w tail q.0 q.1 s) (sym (view_expr_row-out r))

pub ruleset rows = (row-left)

pub row-weight : (r : ExprRow) → weight (view_expr r.value) ≡ weight (view_expr_row r).1
row-weight r = ap (λ (q : Pattern × e.Expr). weight q.1) (sym (view_expr_row-out r))
