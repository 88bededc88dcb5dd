-- What is emitted for a function is its code.
use Rattle.std.proofs.Common.{◌≡◌, ◌∙◌, refl, sym, ap, ℕ, suc, ◌+◌, ◌-◌, ◌<◌, ◌≤◌, true, List, [], ◌∷◌, ◌++◌, length, length-append, append_assoc, arith}
use Rattle.std.specs.Prelude.{slice_set}
use Rattle.std.proofs.lemmas.List.{append-nil}
use Rattle.campl_tree.specs.declared.decl.FunctionRow.{FunctionRow as Row}
use Rattle.campl_tree.specs.Plain.Decl.{FunctionDecl, FunctionRow}
use Rattle.campl_tree.specs.View.{view_function_row}
use Rattle.campl_types.specs.World.{World}
use Rattle.campl_types.specs.Patterns.{bound_in_all}
use Rattle.campl_code.specs.CaseDecisions.{cases_in, cases_in_function, cases_in_function_rows}
use Rattle.campl_code.specs.Generated.{loads_code, code_of, function_code, function_rows_code, function_places}
use Rattle.campl_code.specs.Instructions as i
use Rattle.campl_code.specs.Instructions.{Instr}
use Rattle.campl_code.specs.Numbers.{numbered}
use Rattle.campl_code.proofs.Standing.{loads_length}
use Rattle.campl_gen_exprs.specs.Emission.{Emission, appended, replaced, binding_all, emitted, shortened}
use Rattle.campl_gen_exprs.specs.Functions.{fresh, function_row_emitted, function_rows_emitted, function_row_places, function_emitted}
use Rattle.campl_gen_exprs.proofs.Places.{set-at}
use Rattle.campl_gen_exprs.proofs.Bindings.{forgotten}

-- one load more
pub loads-at : (s : Emission) (n count : ℕ) → n < count → appended (loads_code n (count - n)) s ≡ appended (loads_code (n + 1) (count - (n + 1))) (appended (i.Load n ∷ []) s)
loads-at s n count less =
    let z : count - n ≡ suc (count - (n + 1)) = omega (arith, less) in
    let y : suc n ≡ n + 1 = omega arith in
    ap (λ k. appended (loads_code n k) s) z ∙ ap (λ k. appended (i.Load n ∷ loads_code k (count - (n + 1))) s) y
    ∙ ap (λ l. record s { code = l }) (sym (append_assoc s.code (i.Load n ∷ []) (loads_code (n + 1) (count - (n + 1)))))

pub loads-end : (s : Emission) (n count : ℕ) → count ≤ n → appended (loads_code n (count - n)) s ≡ s
loads-end s n count more =
    let z : count - n ≡ 0 = omega (arith, more) in
    ap (λ k. appended (loads_code n k) s) z ∙ ap (λ l. record s { code = l }) (append-nil s.code)

pub loads-start : (s : Emission) (count : ℕ) → appended (loads_code 0 (count - 0)) s ≡ appended (loads_code 0 count) s
loads-start s count = let z : count - 0 ≡ count = omega arith in ap (λ k. appended (loads_code 0 k) s) z

-- behind a row the variables are those of before
pub function-row-left : (w : World) (r : Row) (s : Emission)
    → shortened (length s.numbers) s.free (emitted w true (view_function_row r).value (binding_all (view_function_row r).patterns s)) ≡ function_row_emitted w (view_function_row r) s
unfolding emitted binding_all
function-row-left w r s =
    let q = view_function_row r in
    let xs = bound_in_all q.patterns in
    let x = code_of w true q.value (length s.code) s.decisions (s.free + length xs) (numbered s.free xs s.numbers) in
    ap (λ ns. record { code = s.code ++ x; decisions = s.decisions + cases_in q.value; free = s.free; numbers = ns }) (forgotten s.free xs s.numbers)

pub ruleset function_rows = (function-row-left)

-- Rows

-- with no variables before
abbrev bare : List Instr → ℕ → Emission
bare c d = record { code = c; decisions = d; free = 0; numbers = [] }

same-bare : (c d : List Instr) (m n : ℕ) → c ≡ d → m ≡ n → bare c m ≡ bare d n
same-bare c d m n h k = ap (λ l. bare l m) h ∙ ap (λ l. bare d l) k

row-is : (w : World) (r : FunctionRow) (c : List Instr) (d : ℕ) → function_row_emitted w r (bare c d) ≡ bare (c ++ code_of w true r.value (length c) d (length (bound_in_all r.patterns)) (numbered 0 (bound_in_all r.patterns) [])) (d + cases_in r.value)
unfolding emitted binding_all
row-is w r c d =
    let xs = bound_in_all r.patterns in
    let z : 0 + length xs ≡ length xs = omega arith in
    ap (λ k. bare (c ++ code_of w true r.value (length c) d k (numbered 0 xs [])) (d + cases_in r.value)) z

rows-are : (w : World) (rows : List FunctionRow) (c : List Instr) (d : ℕ) → function_rows_emitted w rows (bare c d) ≡ bare (c ++ function_rows_code w rows (length c) d) (d + cases_in_function_rows rows)
rows-are w [] c d = let z : d ≡ d + 0 = omega arith in same-bare c (c ++ []) d (d + 0) (sym (append-nil c)) z
rows-are w (r ∷ rows) c d =
    let xs = bound_in_all r.patterns in
    let x = code_of w true r.value (length c) d (length xs) (numbered 0 xs []) in
    let rest : ℕ → List Instr = λ n. function_rows_code w rows n (d + cases_in r.value) in
    ap (function_rows_emitted w rows) (row-is w r c d) ∙ rows-are w rows (c ++ x) (d + cases_in r.value)
    ∙ same-bare ((c ++ x) ++ rest (length (c ++ x))) (c ++ (x ++ rest (length c + length x))) (d + cases_in r.value + cases_in_function_rows rows) (d + (cases_in r.value + cases_in_function_rows rows))
    (ap (λ n. (c ++ x) ++ rest n) (length-append c x) ∙ append_assoc c x (rest (length c + length x))) (omega arith)

places-are : (w : World) (rows : List FunctionRow) (c : List Instr) (d : ℕ) → function_row_places w rows (bare c d) ≡ function_places w rows (length c) d
places-are w [] c d = refl
places-are w (r ∷ rows) c d =
    let xs = bound_in_all r.patterns in
    let x = code_of w true r.value (length c) d (length xs) (numbered 0 xs []) in
    ap (λ l. length c ∷ l) (ap (function_row_places w rows) (row-is w r c d) ∙ places-are w rows (c ++ x) (d + cases_in r.value)
    ∙ ap (λ n. function_places w rows n (d + cases_in r.value)) (length-append c x))

-- a function's code, and how many decisions it takes
pub function-is : (w : World) (f : FunctionDecl) (dec : ℕ) → function_emitted w (length f.parameters) f.rows (fresh dec) ≡ bare (function_code w f dec) (dec + cases_in_function f)
function-is w f dec =
    let n = length f.parameters in
    let loads = loads_code 0 n in
    let c = loads ++ i.Nil ∷ [] in
    let behind : ℕ → List Instr = λ k. function_rows_code w f.rows k (dec + 1) in
    let m = i.Match dec 0 (function_row_places w f.rows (bare c (dec + 1))) in
    let long : length c ≡ n + 1 = length-append loads (i.Nil ∷ []) ∙ ap (λ k. k + 1) (loads_length 0 n) in
    ap (λ u. replaced (length loads) m u) (rows-are w f.rows c (dec + 1))
    ∙ same-bare (slice_set (c ++ behind (length c)) (length loads) m) (function_code w f dec) (dec + 1 + cases_in_function_rows f.rows) (dec + (1 + cases_in_function_rows f.rows))
    (ap (λ l. slice_set l (length loads) m) (append_assoc loads (i.Nil ∷ []) (behind (length c)))
    ∙ set-at loads (behind (length c)) i.Nil m
    ∙ ap (λ l. loads ++ (i.Match dec 0 l ∷ behind (length c))) (places-are w f.rows c (dec + 1))
    ∙ ap (λ k. loads ++ (i.Match dec 0 (function_places w f.rows k (dec + 1)) ∷ behind k)) long) (omega arith)
