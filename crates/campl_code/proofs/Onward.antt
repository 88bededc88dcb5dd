-- The generated code jumps onward alone.
use Rattle.std.proofs.Common.{◌≡◌, subst, arith, ℕ, zero, suc, ◌+◌, ◌<◌, ◌≤◌, Bool, true, false, List, [], ◌∷◌, ◌++◌, length, length-append, slice_get, Some}
use Rattle.campl_tree.specs.Plain.Expr as e
use Rattle.campl_tree.specs.Plain.Expr.{Expr, Exprs, ExprRows}
use Rattle.campl_tree.specs.Plain.Decl.{FunctionDecl, FunctionRow}
use Rattle.campl_types.specs.World.{World}
use Rattle.campl_types.specs.Patterns.{bound_in, bound_in_all}
use Rattle.campl_code.specs.Instructions.{Instr, Block, Code}
use Rattle.campl_code.specs.Instructions as i
use Rattle.campl_code.specs.Numbers.{Numbers, numbered}
use Rattle.campl_code.specs.Stands.{count}
use Rattle.campl_code.specs.Forward.{AllAbove, Ahead, AllAhead}
use Rattle.campl_code.specs.CaseDecisions.{cases_in, cases_in_function}
use Rattle.campl_code.specs.Generated.{last, past, leave, two_code, conses_code, tested_code, code_of, code_of_all, code_of_rows, places_of, function_rows_code, function_places, loads_code, function_code, function_block, function_blocks}
use Rattle.campl_code.proofs.Standing.{rows_length, past_length, loads_length}

pub ahead_append : (x y : List Instr) (p : ℕ) → AllAhead p x → AllAhead (p + length x) y → AllAhead p (x ++ y)
ahead_append [] y p h k = let e : p + 0 ≡ p = omega arith in subst (λ (n : ℕ). AllAhead n y) e k
ahead_append (i ∷ x) y p h k = let e : p + suc (length x) ≡ p + 1 + length x = omega arith in (h.0, ahead_append x y (p + 1) h.1 (subst (λ (n : ℕ). AllAhead n y) e k))

last_ahead : (tail : Bool) (p : ℕ) → AllAhead p (last tail)
last_ahead true p = (tt, tt)
last_ahead false p = tt

past_ahead : (tail : Bool) (p to : ℕ) → p < to → AllAhead p (past tail to)
past_ahead true p to h = tt
past_ahead false p to h = (h, tt)

leave_ahead : (tail : Bool) (p to : ℕ) → p < to → Ahead p (leave tail to)
leave_ahead true p to h = tt
leave_ahead false p to h = h

conses_ahead : (n : ℕ) (tail : Bool) (p : ℕ) → AllAhead p (conses_code n tail)
conses_ahead zero tail p = last_ahead tail p
conses_ahead (suc n) tail p = (tt, conses_ahead n tail (p + 1))

tested_ahead : (p : ℕ) (tail : Bool) → AllAhead p (tested_code p tail)
tested_ahead p tail = (omega arith, (tt, (leave_ahead tail (p + 1 + 1) (p + 4) (omega arith), (tt, last_ahead tail (p + 1 + 1 + 1 + 1)))))

above_less : (p q : ℕ) (ns : List ℕ) → q ≤ p → AllAbove p ns → AllAbove q ns
above_less p q [] l h = tt
above_less p q (n ∷ ns) l h = (omega (arith, l, h.0), above_less p q ns l h.1)

module _ (w : World) where
  places_above : (tail : Bool) (rows : ExprRows) (q p dec free : ℕ) (ns : Numbers) → q < p → AllAbove q (places_of w tail rows p dec free ns)
  places_above tail e.no_expr_rows q p dec free ns l = tt
  places_above tail (e.expr_row_then c a rows) q p dec free ns l =
      let x = code_of w tail a p dec (free + length (bound_in c)) (numbered free (bound_in c) ns) in
      (l, places_above tail rows q (p + length x + length (past tail 0)) (dec + cases_in a) free ns (omega (arith, l)))

  two_ahead : (x y : List Instr) (op : Instr) (tail : Bool) (p : ℕ) → AllAhead p x → AllAhead (p + length x) y → Ahead (p + length x + length y) op → AllAhead p (two_code x y op tail)
  two_ahead x y op tail p hx hy ho = ahead_append x (y ++ (op ∷ last tail)) p hx (ahead_append y (op ∷ last tail) (p + length x) hy (ho, last_ahead tail (p + length x + length y + 1)))

  one_ahead : (x : List Instr) (op : Instr) (tail : Bool) (p : ℕ) → AllAhead p x → Ahead (p + length x) op → AllAhead p (x ++ (op ∷ last tail))
  one_ahead x op tail p hx ho = ahead_append x (op ∷ last tail) p hx (ho, last_ahead tail (p + length x + 1))

  -- a jump over the second branch, where there is one
  jumping : (tail : Bool) (x y : List Instr) (q : ℕ) → AllAhead (q + 1 + length x) (past tail (q + 1 + length x + length (past tail 0) + length y))
  jumping true x y q = tt
  jumping false x y q = (omega arith, tt)

  row_past : (tail : Bool) (p to n : ℕ) → p + length (past tail 0) + n ≤ to → AllAhead p (past tail to)
  row_past true p to n l = tt
  row_past false p to n l = (omega (arith, l), tt)

  mutual
    pub code_ahead : (a : Expr) (tail : Bool) (p dec free : ℕ) (ns : Numbers) → AllAhead p (code_of w tail a p dec free ns)
    code_ahead (e.Number at x) tail p dec free ns = (tt, last_ahead tail (p + 1))
    code_ahead (e.Character at x) tail p dec free ns = (tt, last_ahead tail (p + 1))
    code_ahead (e.Text at x) tail p dec free ns = (tt, last_ahead tail (p + 1))
    code_ahead (e.True at) tail p dec free ns = (tt, last_ahead tail (p + 1))
    code_ahead (e.False at) tail p dec free ns = (tt, last_ahead tail (p + 1))
    code_ahead (e.Variable at x) tail p dec free ns = (tt, last_ahead tail (p + 1))
    code_ahead (e.List at items) tail p dec free ns =
        let x = code_of_all w items p dec free ns in ahead_append x (i.Nil ∷ conses_code (count items) tail) p (all_ahead items p dec free ns) (tt, conses_ahead (count items) tail (p + length x + 1))
    code_ahead (e.Cons at a b) tail p dec free ns =
        let x = code_of w false a p dec free ns in two_ahead x (code_of w false b (p + length x) (dec + cases_in a) free ns) i.Cons tail p (code_ahead a false p dec free ns) (code_ahead b false (p + length x) (dec + cases_in a) free ns) tt
    code_ahead (e.Append at a b) tail p dec free ns =
        let x = code_of w false a p dec free ns in two_ahead x (code_of w false b (p + length x) (dec + cases_in a) free ns) (i.Op i.Append) tail p (code_ahead a false p dec free ns) (code_ahead b false (p + length x) (dec + cases_in a) free ns) tt
    code_ahead (e.Pair at a b) tail p dec free ns =
        let x = code_of w false a p dec free ns in two_ahead x (code_of w false b (p + length x) (dec + cases_in a) free ns) i.Pair tail p (code_ahead a false p dec free ns) (code_ahead b false (p + length x) (dec + cases_in a) free ns) tt
    code_ahead (e.Compare at a op b) tail p dec free ns =
        let x = code_of w false a p dec free ns in two_ahead x (code_of w false b (p + length x) (dec + cases_in a) free ns) (i.Op (i.Compare op)) tail p (code_ahead a false p dec free ns) (code_ahead b false (p + length x) (dec + cases_in a) free ns) tt
    code_ahead (e.Calculate at a op b) tail p dec free ns =
        let x = code_of w false a p dec free ns in two_ahead x (code_of w false b (p + length x) (dec + cases_in a) free ns) (i.Op (i.Calculate op)) tail p (code_ahead a false p dec free ns) (code_ahead b false (p + length x) (dec + cases_in a) free ns) tt
    code_ahead (e.Negate at a) tail p dec free ns = one_ahead (code_of w false a p dec free ns) (i.Op i.Negate) tail p (code_ahead a false p dec free ns) tt
    code_ahead (e.CodeOf at a) tail p dec free ns = one_ahead (code_of w false a p dec free ns) (i.Op i.CodeOf) tail p (code_ahead a false p dec free ns) tt
    code_ahead (e.CharOf at a) tail p dec free ns = one_ahead (code_of w false a p dec free ns) (i.Op i.CharOf) tail p (code_ahead a false p dec free ns) tt
    code_ahead (e.If at a b c) tail p dec free ns =
        let z = code_of w false a p dec free ns in
        let q = p + length z in
        let x = code_of w tail b (q + 1) (dec + cases_in a) free ns in
        let r = q + 1 + length x + length (past tail 0) in
        let y = code_of w tail c r (dec + cases_in a + cases_in b) free ns in
        let end = r + length y in
        let at_r : r ≡ q + 1 + length x + length (past tail end) = omega (arith, past_length w (record { functions = []; processes = []; decisions = [] }) [] tail 0 end) in
        ahead_append z (i.Unless r ∷ (x ++ (past tail end ++ y))) p (code_ahead a false p dec free ns) (
          omega arith,
          ahead_append x (past tail end ++ y) (q + 1) (code_ahead b tail (q + 1) (dec + cases_in a) free ns)
              (ahead_append (past tail end) y (q + 1 + length x) (jumping tail x y q) (subst (λ (n : ℕ). AllAhead n y) at_r (code_ahead c tail r (dec + cases_in a + cases_in b) free ns))),
        )
    code_ahead (e.And at a b) tail p dec free ns =
        let z = code_of w false a p dec free ns in
        let x = code_of w false b (p + length z + 1) (dec + cases_in a) free ns in
        let s = p + length z + 1 + length x in
        ahead_append z (i.Unless (s + 3) ∷ (x ++ tested_code s tail)) p (code_ahead a false p dec free ns)
        (omega arith, ahead_append x (tested_code s tail) (p + length z + 1) (code_ahead b false (p + length z + 1) (dec + cases_in a) free ns) (tested_ahead s tail))
    code_ahead (e.Or at a b) tail p dec free ns =
        let z = code_of w false a p dec free ns in
        let q = p + length z in
        let x = code_of w false b (q + 3) (dec + cases_in a) free ns in
        let s = q + 3 + length x in
        let up : q + 3 ≡ q + 1 + 1 + 1 = omega arith in
        ahead_append z (i.Unless (q + 3) ∷ i.Truth true ∷ leave tail (s + 4) ∷ (x ++ tested_code s tail)) p (code_ahead a false p dec free ns)
        (omega arith, (tt, (leave_ahead tail (q + 1 + 1) (s + 4) (omega arith), subst (λ (n : ℕ). AllAhead n (x ++ tested_code s tail)) up (ahead_append x (tested_code s tail) (q + 3) (code_ahead b false (q + 3) (dec + cases_in a) free ns) (tested_ahead s tail)))))
    code_ahead (e.Call at x args) tail p dec free ns = one_ahead (code_of_all w args p dec free ns) (i.Call _) tail p (all_ahead args p dec free ns) tt
    code_ahead (e.Constructor at x args) tail p dec free ns = one_ahead (code_of_all w args p dec free ns) (i.Build _ (count args)) tail p (all_ahead args p dec free ns) tt
    code_ahead (e.Case at a rows) tail p dec free ns =
        let z = code_of w false a p dec free ns in
        let q = p + length z in
        let m = dec + cases_in a in
        let end = q + 1 + length (code_of_rows w tail rows (q + 1) (m + 1) free ns 0) in
        let long : q + 1 + length (code_of_rows w tail rows (q + 1) (m + 1) free ns end) ≡ end = omega (arith, rows_length w (record { functions = []; processes = []; decisions = [] }) [] tail rows (q + 1) (m + 1) free ns end 0) in
        ahead_append z (i.Match m free (places_of w tail rows (q + 1) (m + 1) free ns) ∷ code_of_rows w tail rows (q + 1) (m + 1) free ns end) p (code_ahead a false p dec free ns)
        (places_above tail rows q (q + 1) (m + 1) free ns (omega arith), rows_ahead rows tail (q + 1) (m + 1) free ns end (omega (arith, long)))

    pub all_ahead : (args : Exprs) (p dec free : ℕ) (ns : Numbers) → AllAhead p (code_of_all w args p dec free ns)
    all_ahead e.no_exprs p dec free ns = tt
    all_ahead (e.expr_then a rest) p dec free ns =
        let x = code_of w false a p dec free ns in ahead_append x (code_of_all w rest (p + length x) (dec + cases_in a) free ns) p (code_ahead a false p dec free ns) (all_ahead rest (p + length x) (dec + cases_in a) free ns)

    rows_ahead : (rows : ExprRows) (tail : Bool) (p dec free : ℕ) (ns : Numbers) (to : ℕ) → p + length (code_of_rows w tail rows p dec free ns to) ≤ to → AllAhead p (code_of_rows w tail rows p dec free ns to)
    rows_ahead e.no_expr_rows tail p dec free ns to l = tt
    rows_ahead (e.expr_row_then c a rows) tail p dec free ns to l =
        let xs = bound_in c in
        let x = code_of w tail a p dec (free + length xs) (numbered free xs ns) in
        let p' = p + length x + length (past tail 0) in
        let y = code_of_rows w tail rows p' (dec + cases_in a) free ns to in
        let same = past_length w (record { functions = []; processes = []; decisions = [] }) [] tail to 0 in
        let long : p' + length y ≤ to = omega (arith, l, same, length-append x (past tail to ++ y), length-append (past tail to) y) in
        let at : p' ≡ p + length x + length (past tail to) = omega (arith, same) in
        ahead_append x (past tail to ++ y) p (code_ahead a tail p dec (free + length xs) (numbered free xs ns))
        (ahead_append (past tail to) y (p + length x) (row_past tail (p + length x) to (length y) long) (subst (λ (n : ℕ). AllAhead n y) at (rows_ahead rows tail p' (dec + cases_in a) free ns to long)))

  -- Functions

  loads_ahead : (n more p : ℕ) → AllAhead p (loads_code n more)
  loads_ahead n zero p = tt
  loads_ahead n (suc more) p = (tt, loads_ahead (suc n) more (p + 1))

  function_rows_ahead : (rows : List FunctionRow) (p dec : ℕ) → AllAhead p (function_rows_code w rows p dec)
  function_rows_ahead [] p dec = tt
  function_rows_ahead (r ∷ rows) p dec =
      let xs = bound_in_all r.patterns in
      let x = code_of w true r.value p dec (length xs) (numbered 0 xs []) in
      ahead_append x (function_rows_code w rows (p + length x) (dec + cases_in r.value)) p (code_ahead r.value true p dec (length xs) (numbered 0 xs [])) (function_rows_ahead rows (p + length x) (dec + cases_in r.value))

  function_places_above : (rows : List FunctionRow) (q p dec : ℕ) → q < p → AllAbove q (function_places w rows p dec)
  function_places_above [] q p dec l = tt
  function_places_above (r ∷ rows) q p dec l =
      let xs = bound_in_all r.patterns in
      let x = code_of w true r.value p dec (length xs) (numbered 0 xs []) in
      (l, function_places_above rows q (p + length x) (dec + cases_in r.value) (omega (arith, l)))

  pub function_ahead : (f : FunctionDecl) (dec : ℕ) → AllAhead 0 (function_code w f dec)
  function_ahead f dec =
      let n = length f.parameters in
      let at : n ≡ 0 + length (loads_code 0 n) = omega (arith, loads_length 0 n) in
      let rest = function_rows_code w f.rows (n + 1) (dec + 1) in
      let x = i.Match dec 0 (function_places w f.rows (n + 1) (dec + 1)) in
      ahead_append (loads_code 0 n) (x ∷ rest) 0 (loads_ahead 0 n 0) (subst (λ (k : ℕ). AllAhead k (x ∷ rest)) at (function_places_above f.rows n (n + 1) (dec + 1) (omega arith), function_rows_ahead f.rows (n + 1) (dec + 1)))

  pub functions_ahead : (fs : List FunctionDecl) (dec n : ℕ) (b : Block) → slice_get (function_blocks w fs dec) n ≡ Some b → AllAhead 0 b.code
  functions_ahead [] dec n b at = absurd (cc at)
  functions_ahead (f ∷ fs) dec zero b at = let same : function_block w f dec ≡ b = cc at in subst (λ (b : Block). AllAhead 0 b.code) same (function_ahead f dec)
  functions_ahead (f ∷ fs) dec (suc n) b at = functions_ahead fs (dec + cases_in_function f) n b at
