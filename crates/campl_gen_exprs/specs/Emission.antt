-- Code in the steps in which it is emitted. The words of the definition are closed here, so that a proof about code sees each
-- node's own equation; `proofs/Nodes` has them.
use Rattle.std.specs.Prelude.{ℕ, ◌+◌, Bool, true, false, List, [], ◌∷◌, ◌++◌, length, slice_set, drop, ◌-◌}
use Rattle.campl_tree.specs.Plain.Expr as e
use Rattle.campl_tree.specs.Plain.Expr.{Expr, Exprs, ExprRows}
use Rattle.campl_tree.specs.Plain.Pattern.{Pattern, Patterns}
use Rattle.campl_types.specs.Names.{Name}
use Rattle.campl_types.specs.World.{World}
use Rattle.campl_types.specs.Patterns.{bound_in, bound_in_all}
use Rattle.campl_code.specs.CaseDecisions.{cases_in, cases_in_all}
use Rattle.campl_code.specs.Generated.{last, past, leave, conses_code, tested_code, code_of, code_of_all}
use Rattle.campl_code.specs.Instructions as i
use Rattle.campl_code.specs.Instructions.{Instr, Operation}
use Rattle.campl_code.specs.Numbers.{Numbers, numbered}
use Rattle.campl_code.specs.Stands.{count}

-- what emission has in hand: the code so far, the numbers of the next decision and the next variable, and those of the known ones
pub record Emission : Type 0 where
  pub code : List Instr
  pub decisions : ℕ
  pub free : ℕ
  pub numbers : Numbers

-- Steps

abbrev pub appended : List Instr → Emission → Emission
appended xs s = record s { code = s.code ++ xs }

-- one decision more
abbrev pub counted : Emission → Emission
counted s = record s { decisions = s.decisions + 1 }

abbrev pub replaced : ℕ → Instr → Emission → Emission
replaced at x s = record s { code = slice_set s.code at x }

-- a jump at a place, where the branch doesn't return
abbrev pub written : Bool → List Instr → ℕ → ℕ → List Instr
written true code at to = code
written false code at to = slice_set code at (i.Jump to)

abbrev pub jumping : Bool → ℕ → ℕ → Emission → Emission
jumping tail at to s = record s { code = written tail s.code at to }

-- one instruction at each of these places
abbrev pub all_set : List ℕ → Instr → List Instr → List Instr
all_set [] x code = code
all_set (n ∷ ns) x code = all_set ns x (slice_set code n x)

abbrev pub all_jump : List ℕ → (to : ℕ) → Emission → Emission
all_jump ends to s = record s { code = all_set ends (i.Jump to) s.code }

-- the jumps of branches to here
abbrev pub ends_set : Bool → List ℕ → Emission → Emission
ends_set true ends s = s
ends_set false ends s = all_jump ends (length s.code) s

-- these variables have the next numbers
abbrev pub bound : List Name → Emission → Emission
bound xs s = record s { free = s.free + length xs; numbers = numbered s.free xs s.numbers }

-- the variables of a pattern, and of patterns
unfoldable pub binding : Pattern → Emission → Emission
binding p s = bound (bound_in p) s

unfoldable pub binding_all : Patterns → Emission → Emission
binding_all ps s = bound (bound_in_all ps) s

-- the variables are those of before
abbrev pub left : Emission → Emission → Emission
left before s = record s { free = before.free; numbers = before.numbers }

-- the newest variables go down to so many
abbrev pub shortened : ℕ → ℕ → Emission → Emission
shortened variables free s = record s { free = free; numbers = drop (length s.numbers - variables) s.numbers }

-- Expressions

unfoldable pub emitted : World → Bool → Expr → Emission → Emission
emitted w tail a s =
    record s { code = s.code ++ code_of w tail a (length s.code) s.decisions s.free s.numbers; decisions = s.decisions + cases_in a }

unfoldable pub emitted_all : World → Exprs → Emission → Emission
emitted_all w args s =
    record s { code = s.code ++ code_of_all w args (length s.code) s.decisions s.free s.numbers; decisions = s.decisions + cases_in_all args }

-- two operands, or one, and what is made of them
abbrev pub emitted_two : World → (a b : Expr) → Instr → Bool → Emission → Emission
emitted_two w a b op tail s = appended (op ∷ last tail) (emitted w false b (emitted w false a s))

abbrev pub emitted_one : World → Expr → Instr → Bool → Emission → Emission
emitted_one w a op tail s = appended (op ∷ last tail) (emitted w false a s)

-- the elements, the empty list, and a cell for each
abbrev pub emitted_list : World → Exprs → Bool → Emission → Emission
emitted_list w items tail s = appended (conses_code (count items) tail) (appended (i.Nil ∷ []) (emitted_all w items s))

-- the arguments, and what is made of them
abbrev pub emitted_over : World → Exprs → Instr → Bool → Emission → Emission
emitted_over w args x tail s = appended (x ∷ last tail) (emitted_all w args s)

-- `if`: the test's place and the jump's are written at the end
abbrev pub emitted_else : World → Expr → Bool → (test jump : ℕ) → Emission → Emission
emitted_else w c tail test jump s =
    let t = emitted w tail c s in jumping tail jump (length t.code) (replaced test (i.Unless (length s.code)) t)

abbrev pub emitted_then : World → (b c : Expr) → Bool → (test : ℕ) → Emission → Emission
emitted_then w b c tail test s = let t = emitted w tail b s in emitted_else w c tail test (length t.code) (appended (past tail 0) t)

abbrev pub emitted_if : World → (a b c : Expr) → Bool → Emission → Emission
emitted_if w a b c tail s = let t = emitted w false a s in emitted_then w b c tail (length t.code) (appended (i.Unless 0 ∷ []) t)

-- `&&`, whose right side is tested too
abbrev pub emitted_and_right : World → Expr → Bool → (test : ℕ) → Emission → Emission
emitted_and_right w b tail test s =
    let t = emitted w false b s in replaced test (i.Unless (length t.code + 3)) (appended (tested_code (length t.code) tail) t)

abbrev pub emitted_and : World → (a b : Expr) → Bool → Emission → Emission
emitted_and w a b tail s = let t = emitted w false a s in emitted_and_right w b tail (length t.code) (appended (i.Unless 0 ∷ []) t)

-- `||`, whose right side is tested too
abbrev pub emitted_or_right : World → Expr → Bool → Emission → Emission
emitted_or_right w b tail s =
    let t = emitted w false b (appended (leave tail 0 ∷ []) s) in
    jumping tail (length s.code) (length t.code + 4) (appended (tested_code (length t.code) tail) t)

abbrev pub emitted_or : World → (a b : Expr) → Bool → Emission → Emission
emitted_or w a b tail s =
    let t = emitted w false a s in emitted_or_right w b tail (appended (i.Unless (length t.code + 3) ∷ i.Truth true ∷ []) t)

-- Rows: each one's value with its variables, and a jump to the end

abbrev pub row_emitted : World → Bool → Pattern → Expr → Emission → Emission
row_emitted w tail p a s = left s (emitted w tail a (binding p s))

abbrev pub rows_emitted : World → Bool → ExprRows → Emission → Emission
rows_emitted w tail e.no_expr_rows s = s
rows_emitted w tail (e.expr_row_then p a rows) s = rows_emitted w tail rows (appended (past tail 0) (row_emitted w tail p a s))

-- where the rows begin
abbrev pub row_places : World → Bool → ExprRows → Emission → List ℕ
row_places w tail e.no_expr_rows s = []
row_places w tail (e.expr_row_then p a rows) s = length s.code ∷ row_places w tail rows (appended (past tail 0) (row_emitted w tail p a s))

-- where the rows end
abbrev pub row_ends : World → Bool → ExprRows → Emission → List ℕ
row_ends w tail e.no_expr_rows s = []
row_ends w tail (e.expr_row_then p a rows) s =
    length (row_emitted w tail p a s).code ∷ row_ends w tail rows (appended (past tail 0) (row_emitted w tail p a s))

-- behind the rows: the match and the jumps are written
abbrev pub case_closed : Bool → (at decision : ℕ) → (places ends : List ℕ) → Emission → Emission
case_closed tail at decision places ends s = replaced at (i.Match decision s.free places) (ends_set tail ends s)

-- the match at a place, and the rows behind it
abbrev pub emitted_rows : World → ExprRows → Bool → (at decision : ℕ) → Emission → Emission
emitted_rows w rows tail at decision s =
    case_closed tail at decision (row_places w tail rows s) (row_ends w tail rows s) (rows_emitted w tail rows s)

abbrev pub emitted_case : World → Expr → ExprRows → Bool → Emission → Emission
emitted_case w a rows tail s =
    let t = emitted w false a s in emitted_rows w rows tail (length t.code) t.decisions (counted (appended (i.Nil ∷ []) t))
