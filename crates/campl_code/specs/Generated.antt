-- The code that is generated for expressions and functions, as a function.
use Rattle.std.specs.Prelude.{ℕ, zero, suc, ◌+◌, Bool, true, false, List, [], ◌∷◌, ◌++◌, Option, Some, None, if◌then◌else◌, length, option_map}
use Rattle.campl_tree.specs.Plain.Expr as e
use Rattle.campl_tree.specs.Plain.Expr.{Expr, Exprs, ExprRows}
use Rattle.campl_tree.specs.Plain.Decl.{FunctionDecl, FunctionRow, Data, Protocol, Coprotocol, Function, Process}
use Rattle.campl_types.specs.Names.{Name, same_name, found}
use Rattle.campl_types.specs.World.{World}
use Rattle.campl_types.specs.Matching.{number_of}
use Rattle.campl_types.specs.Patterns.{bound_in, bound_in_all}
use Rattle.campl_code.specs.Instructions.{Operation, Instr, Block, Code}
use Rattle.campl_code.specs.Instructions as i
use Rattle.campl_code.specs.Numbers.{Numbers, numbered}
use Rattle.campl_code.specs.Stands.{count, functions_of}
use Rattle.campl_code.specs.CaseDecisions.{cases_in, cases_in_function, decisions_of_functions}

abbrev pub or_zero : Option ℕ → ℕ
or_zero (Some n) = n
or_zero None = 0

-- a function's place among the functions
abbrev pub function_number : World → Name → Option ℕ
function_number [] x = None
function_number (Function f ∷ ds) x = if same_name x f.name.name then Some 0 else option_map suc (function_number ds x)
function_number (Data d ∷ ds) x = function_number ds x
function_number (Protocol d ∷ ds) x = function_number ds x
function_number (Coprotocol d ∷ ds) x = function_number ds x
function_number (Process d ∷ ds) x = function_number ds x

-- Instructions. With `tail`, the code ends by a return, and else it goes on behind itself.

abbrev pub last : Bool → List Instr
last true = i.Return ∷ []
last false = []

-- a jump from the end of a branch, where it doesn't return
abbrev pub past : Bool → ℕ → List Instr
past true to = []
past false to = i.Jump to ∷ []

-- how a value in a branch goes on
abbrev pub leave : Bool → ℕ → Instr
leave true to = i.Return
leave false to = i.Jump to

abbrev pub two_code : List Instr → List Instr → Instr → Bool → List Instr
two_code x y op tail = x ++ (y ++ (op ∷ last tail))

abbrev pub conses_code : ℕ → Bool → List Instr
conses_code zero tail = last tail
conses_code (suc n) tail = i.Cons ∷ conses_code n tail

-- a truth is tested and comes out again; this is place p
abbrev pub tested_code : ℕ → Bool → List Instr
tested_code p tail = i.Unless (p + 3) ∷ i.Truth true ∷ leave tail (p + 4) ∷ i.Truth false ∷ last tail

abbrev mutual
  -- from this place on, with these numbers of the next decision and the next variable
  pub code_of : World → Bool → Expr → (base dec free : ℕ) → Numbers → List Instr
  code_of w tail (e.Number at x) base dec free ns = i.Int x ∷ last tail
  code_of w tail (e.Character at x) base dec free ns = i.Char x ∷ last tail
  code_of w tail (e.Text at x) base dec free ns = i.Text x ∷ last tail
  code_of w tail (e.True at) base dec free ns = i.Truth true ∷ last tail
  code_of w tail (e.False at) base dec free ns = i.Truth false ∷ last tail
  code_of w tail (e.Variable at x) base dec free ns = i.Load (or_zero (found x ns)) ∷ last tail
  code_of w tail (e.List at items) base dec free ns = code_of_all w items base dec free ns ++ (i.Nil ∷ conses_code (count items) tail)
  code_of w tail (e.Cons at a b) base dec free ns =
      let x = code_of w false a base dec free ns in two_code x (code_of w false b (base + length x) (dec + cases_in a) free ns) i.Cons tail
  code_of w tail (e.Append at a b) base dec free ns =
      let x = code_of w false a base dec free ns in two_code x (code_of w false b (base + length x) (dec + cases_in a) free ns) (i.Op i.Append) tail
  code_of w tail (e.Pair at a b) base dec free ns =
      let x = code_of w false a base dec free ns in two_code x (code_of w false b (base + length x) (dec + cases_in a) free ns) i.Pair tail
  code_of w tail (e.Compare at a op b) base dec free ns =
      let x = code_of w false a base dec free ns in two_code x (code_of w false b (base + length x) (dec + cases_in a) free ns) (i.Op (i.Compare op)) tail
  code_of w tail (e.Calculate at a op b) base dec free ns =
      let x = code_of w false a base dec free ns in two_code x (code_of w false b (base + length x) (dec + cases_in a) free ns) (i.Op (i.Calculate op)) tail
  code_of w tail (e.Negate at a) base dec free ns = code_of w false a base dec free ns ++ (i.Op i.Negate ∷ last tail)
  code_of w tail (e.CodeOf at a) base dec free ns = code_of w false a base dec free ns ++ (i.Op i.CodeOf ∷ last tail)
  code_of w tail (e.CharOf at a) base dec free ns = code_of w false a base dec free ns ++ (i.Op i.CharOf ∷ last tail)
  code_of w tail (e.If at a b c) base dec free ns =
      let z = code_of w false a base dec free ns in
      let x = code_of w tail b (base + length z + 1) (dec + cases_in a) free ns in
      let r = base + length z + 1 + length x + length (past tail 0) in
      let y = code_of w tail c r (dec + cases_in a + cases_in b) free ns in
      z ++ (i.Unless r ∷ (x ++ (past tail (r + length y) ++ y)))
  code_of w tail (e.And at a b) base dec free ns =
      let z = code_of w false a base dec free ns in
      let x = code_of w false b (base + length z + 1) (dec + cases_in a) free ns in
      let s = base + length z + 1 + length x in
      z ++ (i.Unless (s + 3) ∷ (x ++ tested_code s tail))
  code_of w tail (e.Or at a b) base dec free ns =
      let z = code_of w false a base dec free ns in
      let x = code_of w false b (base + length z + 3) (dec + cases_in a) free ns in
      let s = base + length z + 3 + length x in
      z ++ (i.Unless (base + length z + 3) ∷ i.Truth true ∷ leave tail (s + 4) ∷ (x ++ tested_code s tail))
  code_of w tail (e.Call at x args) base dec free ns = code_of_all w args base dec free ns ++ (i.Call (or_zero (function_number w x)) ∷ last tail)
  code_of w tail (e.Constructor at x args) base dec free ns =
      code_of_all w args base dec free ns ++ (i.Build (or_zero (number_of w x)) (count args) ∷ last tail)
  code_of w tail (e.Case at a rows) base dec free ns =
      let z = code_of w false a base dec free ns in
      let q = base + length z + 1 in
      let d = dec + cases_in a in
      let end = q + length (code_of_rows w tail rows q (d + 1) free ns 0) in
      z ++ (i.Match d free (places_of w tail rows q (d + 1) free ns) ∷ code_of_rows w tail rows q (d + 1) free ns end)

  pub code_of_all : World → Exprs → (base dec free : ℕ) → Numbers → List Instr
  code_of_all w e.no_exprs base dec free ns = []
  code_of_all w (e.expr_then a rest) base dec free ns =
      let x = code_of w false a base dec free ns in x ++ code_of_all w rest (base + length x) (dec + cases_in a) free ns

  -- the rows' values, each followed by a jump to the end
  pub code_of_rows : World → Bool → ExprRows → (base dec free : ℕ) → Numbers → (end : ℕ) → List Instr
  code_of_rows w tail e.no_expr_rows base dec free ns end = []
  code_of_rows w tail (e.expr_row_then p a rows) base dec free ns end =
      let x = code_of w tail a base dec (free + length (bound_in p)) (numbered free (bound_in p) ns) in
      x ++ (past tail end ++ code_of_rows w tail rows (base + length x + length (past tail 0)) (dec + cases_in a) free ns end)

  -- where the rows' values begin
  pub places_of : World → Bool → ExprRows → (base dec free : ℕ) → Numbers → List ℕ
  places_of w tail e.no_expr_rows base dec free ns = []
  places_of w tail (e.expr_row_then p a rows) base dec free ns =
      let x = code_of w tail a base dec (free + length (bound_in p)) (numbered free (bound_in p) ns) in
      base ∷ places_of w tail rows (base + length x + length (past tail 0)) (dec + cases_in a) free ns

-- Functions

abbrev pub function_rows_code : World → List FunctionRow → (base dec : ℕ) → List Instr
function_rows_code w [] base dec = []
function_rows_code w (r ∷ rows) base dec =
    let xs = bound_in_all r.patterns in
    let x = code_of w true r.value base dec (length xs) (numbered 0 xs []) in
    x ++ function_rows_code w rows (base + length x) (dec + cases_in r.value)

abbrev pub function_places : World → List FunctionRow → (base dec : ℕ) → List ℕ
function_places w [] base dec = []
function_places w (r ∷ rows) base dec =
    let xs = bound_in_all r.patterns in
    let x = code_of w true r.value base dec (length xs) (numbered 0 xs []) in
    base ∷ function_places w rows (base + length x) (dec + cases_in r.value)

abbrev pub loads_code : ℕ → ℕ → List Instr
loads_code n zero = []
loads_code n (suc more) = i.Load n ∷ loads_code (suc n) more

-- loads of the parameters, a match, and the rows
abbrev pub function_code : World → FunctionDecl → (dec : ℕ) → List Instr
function_code w f dec =
    let n = length f.parameters in
    loads_code 0 n ++ (i.Match dec 0 (function_places w f.rows (n + 1) (dec + 1)) ∷ function_rows_code w f.rows (n + 1) (dec + 1))

abbrev pub function_block : World → FunctionDecl → (dec : ℕ) → Block
function_block w f dec = record { name = f.name.name; variables = length f.parameters; inputs = 0; outputs = 0; code = function_code w f dec }

abbrev pub function_blocks : World → List FunctionDecl → (dec : ℕ) → List Block
function_blocks w [] dec = []
function_blocks w (f ∷ fs) dec = function_block w f dec ∷ function_blocks w fs (dec + cases_in_function f)

-- the code of a source's functions
abbrev pub functions_code : World → Code
functions_code w = record { functions = function_blocks w (functions_of w) 0; processes = []; decisions = decisions_of_functions w (functions_of w) }
