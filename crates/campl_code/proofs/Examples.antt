-- Examples that compute.
use Rattle.std.specs.Prelude.{◌≡◌, refl, ℕ, pos, true, false, List, [], ◌∷◌, ◌++◌, Some, None}
use Rattle.campl_tree.specs.declared.place.Place.{Place}
use Rattle.campl_tree.specs.Plain.Expr as e
use Rattle.campl_tree.specs.Plain.Expr.{Expr, Exprs, ExprRows}
use Rattle.campl_tree.specs.Plain.Pattern as p
use Rattle.campl_tree.specs.Plain.SeqType as s
use Rattle.campl_tree.specs.Plain.Decl.{FunctionDecl, Function}
use Rattle.campl_types.specs.World.{World}
use Rattle.campl_types.specs.Forms as form
use Rattle.campl_types.specs.Forms.{Form}
use Rattle.campl_value.specs.Tree.{Truth, Int, Nil, Cell, Pair}
use Rattle.campl_evaluation.specs.Evaluation.{Done, Wrong, value_of}
use Rattle.campl_code.specs.Decisions.{Decision, Row, Test, Fail, chosen}
use Rattle.campl_code.specs.Decisions as v
use Rattle.campl_code.specs.Compiled.{decision_for}
use Rattle.campl_code.specs.Numbers.{Numbers}
use Rattle.campl_code.specs.Instructions.{Instr, Block, Code}
use Rattle.campl_code.specs.Instructions as i
use Rattle.campl_code.specs.Runs.{run, Gave, Pauses, Outcome}
use Rattle.campl_code.specs.Frames.{frame_at}
use Rattle.campl_code.specs.Rules.{first_fault}
use Rattle.campl_code.specs.Generated.{function_code, code_of, code_of_all, functions_code}

abbrev at : Place
at = record { line = 1; column = 1 }

-- fun 7 :: [Int] -> [Int] where
--     [] -> []
--     1 : 2 -> 1 : 7(2)
abbrev copy : FunctionDecl
copy = record {
  place = at;
  name = record { name = 7 ∷ []; place = at };
  parameters = s.List s.Int ∷ [];
  result = s.List s.Int;
  rows =
      record { place = at; patterns = p.pattern_then (p.List at p.no_patterns) p.no_patterns; value = e.List at e.no_exprs }
      ∷ record {
        place = at;
        patterns = p.pattern_then (p.Cons at (p.Variable at (1 ∷ [])) (p.Variable at (2 ∷ []))) p.no_patterns;
        value = e.Cons at (e.Variable at (1 ∷ [])) (e.Call at (7 ∷ []) (e.expr_then (e.Variable at (2 ∷ [])) e.no_exprs));
      }
      ∷ [];
}

abbrev world : World
world = Function copy ∷ []

copy_code : function_code world copy 0
    ≡ i.Load 0 ∷ i.Match 0 0 (2 ∷ 4 ∷ []) ∷ i.Nil ∷ i.Return ∷ i.Load 0 ∷ i.Load 1 ∷ i.Call 0 ∷ i.Cons ∷ i.Return ∷ []
copy_code = refl

-- 7([3, 4]) in a process that puts it on a channel
abbrev call : Exprs
call = e.expr_then (e.Call at (7 ∷ []) (e.expr_then (e.List at (e.expr_then (e.Number at (pos 3)) (e.expr_then (e.Number at (pos 4)) e.no_exprs))) e.no_exprs)) e.no_exprs

abbrev whole : Code
whole = record (functions_code world) { processes = record { name = 9 ∷ []; variables = 0; inputs = 0; outputs = 0; code = code_of_all world call 0 1 0 [] ++ (i.Put 0 ∷ i.Halt None ∷ []) } ∷ [] }

runs : run whole 100 (frame_at 1 0 []) [] 5 ≡ Gave 6 [] (Cell (Int (pos 3)) (Cell (Int (pos 4)) Nil) ∷ []) 2
runs = refl

abbrev pauses_with : Outcome → ℕ
pauses_with (Pauses f fs) = 1
pauses_with o = 0

-- three calls are needed
pauses : pauses_with (run whole 100 (frame_at 1 0 []) [] 2) ≡ 1
pauses = refl

-- it breaks no rule
sound : first_fault whole ≡ None
sound = refl

-- Forms of expressions, over two variables

abbrev numbers : Numbers
numbers = (6 ∷ [], 1) ∷ (8 ∷ [], 0) ∷ []

abbrev first : Expr
first = e.Variable at (8 ∷ [])

abbrev second : Expr
second = e.Variable at (6 ∷ [])

-- the right side is tested too
and_code : code_of [] false (e.And at first second) 0 0 2 numbers
    ≡ i.Load 0 ∷ i.Unless 6 ∷ i.Load 1 ∷ i.Unless 6 ∷ i.Truth true ∷ i.Jump 7 ∷ i.Truth false ∷ []
and_code = refl

or_code : code_of [] false (e.Or at first second) 0 0 2 numbers
    ≡ i.Load 0 ∷ i.Unless 4 ∷ i.Truth true ∷ i.Jump 9 ∷ i.Load 1 ∷ i.Unless 8 ∷ i.Truth true ∷ i.Jump 9 ∷ i.Truth false ∷ []
or_code = refl

if_code : code_of [] false (e.If at first second first) 0 0 2 numbers ≡ i.Load 0 ∷ i.Unless 4 ∷ i.Load 1 ∷ i.Jump 5 ∷ i.Load 0 ∷ []
if_code = refl

-- at the end of a function each branch returns by itself
if_at_end : code_of [] true (e.If at first second first) 0 0 2 numbers ≡ i.Load 0 ∷ i.Unless 4 ∷ i.Load 1 ∷ i.Return ∷ i.Load 0 ∷ i.Return ∷ []
if_at_end = refl

-- the rows of a case begin behind its match, and their variables behind those that are known
case_code : code_of [] false (e.Case at first (e.expr_row_then (p.Number at (pos 1)) second (e.expr_row_then (p.Variable at (5 ∷ [])) (e.Variable at (5 ∷ [])) e.no_expr_rows))) 0 0 2 numbers
    ≡ i.Load 0 ∷ i.Match 0 2 (2 ∷ 4 ∷ []) ∷ i.Load 1 ∷ i.Jump 6 ∷ i.Load 2 ∷ i.Jump 6 ∷ []
case_code = refl

-- Decisions

abbrev anything : Form
anything = form.Anything

-- the rows `[], _`, `_, []` and `x : xs, y : ys`
zip_rows : decision_for [] 2 ((form.Nil ∷ anything ∷ []) ∷ (anything ∷ form.Nil ∷ [])
    ∷ (form.Cons (form.Variable (1 ∷ [])) (form.Variable (2 ∷ [])) ∷ form.Cons (form.Variable (3 ∷ [])) (form.Variable (4 ∷ [])) ∷ []) ∷ [])
    ≡ record {
      width = 2;
      bound = 0 ∷ 0 ∷ 4 ∷ [];
      tree = Test (0 ∷ []) v.Nil (Row 0 [])
          (Test (1 ∷ []) v.Nil (Row 1 [])
          (Test (0 ∷ []) v.Cell (Test (1 ∷ []) v.Cell (Row 2 ((0 ∷ 0 ∷ []) ∷ (0 ∷ 1 ∷ []) ∷ (1 ∷ 0 ∷ []) ∷ (1 ∷ 1 ∷ []) ∷ [])) Fail) Fail));
    }
zip_rows = refl

-- the first of two rows that match, and a value of another kind
abbrev truths : List (List Form)
truths = (form.Truth true ∷ []) ∷ (anything ∷ []) ∷ (form.Truth false ∷ []) ∷ []

finds : chosen (decision_for [] 1 truths).tree (Truth true ∷ []) ≡ Some (0, [])
finds = refl

finds_first : chosen (decision_for [] 1 truths).tree (Truth false ∷ []) ≡ Some (1, [])
finds_first = refl

finds_other : chosen (decision_for [] 1 truths).tree (Int (pos 3) ∷ []) ≡ Some (1, [])
finds_other = refl

-- Code that does not stand for its expression

abbrev running : List Instr → List Decision → Code
running code ds = record { functions = []; processes = record { name = 9 ∷ []; variables = 0; inputs = 0; outputs = 0; code = code } ∷ []; decisions = ds }

-- `True && 3` is wrong, and code without a test of the right side gives 3
and_is_wrong : value_of [] (e.And at (e.True at) (e.Number at (pos 3))) [] 0 ≡ Wrong 0
and_is_wrong = refl

and_gives : run (running (i.Truth true ∷ i.Unless 4 ∷ i.Int (pos 3) ∷ i.Jump 5 ∷ i.Truth false ∷ i.Put 0 ∷ []) []) 10 (frame_at 0 0 []) [] 0 ≡ Gave 5 [] (Int (pos 3) ∷ []) 0
and_gives = refl

-- `(case y of y -> case 1 of z -> z, y)` with 5 for y is (1, 5); code whose inner row sets the outer y's number gives (1, 1)
abbrev any : Decision
any = record { width = 1; bound = 1 ∷ []; tree = Row 0 ((0 ∷ []) ∷ []) }

abbrev twice : Expr
twice =
    let y = e.Variable at (8 ∷ []) in
    e.Pair at
    (e.Case at y (e.expr_row_then (p.Variable at (8 ∷ [])) (e.Case at (e.Number at (pos 1)) (e.expr_row_then (p.Variable at (6 ∷ [])) (e.Variable at (6 ∷ [])) e.no_expr_rows)) e.no_expr_rows))
    y

twice_is : value_of [] twice ((8 ∷ [], Int (pos 5)) ∷ []) 0 ≡ Done (Pair (Int (pos 1)) (Int (pos 5))) 0
twice_is = refl

twice_gives : run (running (i.Load 0 ∷ i.Match 0 1 (2 ∷ []) ∷ i.Int (pos 1) ∷ i.Match 0 0 (4 ∷ []) ∷ i.Load 0 ∷ i.Load 0 ∷ i.Pair ∷ i.Put 0 ∷ []) (any ∷ [])) 10 (frame_at 0 0 (Int (pos 5) ∷ Nil ∷ [])) [] 0
    ≡ Gave 7 (Int (pos 1) ∷ Int (pos 5) ∷ []) (Pair (Int (pos 1)) (Int (pos 1)) ∷ []) 0
twice_gives = refl
