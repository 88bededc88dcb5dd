-- What an instruction makes of the operands, and what its answer tells of it.
use Rattle.std.specs.Prelude.{◌≡◌, ℕ, List, [], ◌∷◌, Option, Some, None, slice_get}
use Rattle.campl_value.specs.Tree.{Tree, Int, Char, Truth, Nil, Cell, Pair, built}
use Rattle.campl_value.specs.Text.{text_of}
use Rattle.campl_code.specs.Instructions as i
use Rattle.campl_code.specs.Instructions.{Instr, Operation}
use Rattle.campl_code.specs.Results.{Break, Result, Value, Broken, TooDeep, Faulty, appends, calculates, chars, codes, compares, fitting, negates, perhaps}
use Rattle.campl_code.specs.Machine.{popped}
use Rattle.campl_operands.specs.declared.effect.Effect.{Effect}
use Rattle.campl_operands.specs.declared.effect.Effect.TheVariants as e
use Rattle.campl_operands.specs.declared.effect.RowEffect.{RowEffect}
use Rattle.campl_operands.specs.declared.effect.RowEffect.TheVariants as r

-- the operands behind an instruction, or why it breaks
pub data After : Type 0 where
  Leaves : List Tree → After
  Stops : Break → After

-- a value on the others
abbrev pub pushed : List Tree → Result → After
pushed stack (Value v) = Leaves (v ∷ stack)
pushed stack (Broken b) = Stops b

-- an operation on the top
abbrev pub on_one : List Tree → (Tree → Result) → After
on_one (v ∷ stack) op = pushed stack (op v)
on_one [] op = Stops Faulty

-- an operation on the two on top, of which the lower one is the left one
abbrev pub on_two : List Tree → (Tree → Tree → Result) → After
on_two (u ∷ v ∷ stack) op = pushed stack (op v u)
on_two (u ∷ []) op = Stops Faulty
on_two [] op = Stops Faulty

abbrev pub operated : Operation → List Tree → After
operated (i.Calculate op) stack = on_two stack (calculates op)
operated (i.Compare op) stack = on_two stack (compares op)
operated i.Append stack = on_two stack appends
operated i.Negate stack = on_one stack negates
operated i.CodeOf stack = on_one stack codes
operated i.CharOf stack = on_one stack chars

-- a constructor with these parts, which stood on the others
abbrev pub built_of : ℕ → Option (List Tree × List Tree) → After
built_of c None = Stops Faulty
built_of c (Some p) = pushed p.1 (fitting (built c p.0))

-- what each instruction makes that makes a value; no other one makes any
abbrev pub made : Instr → (variables stack : List Tree) → After
made (i.Int n) variables stack = pushed stack (Value (Int n))
made (i.Char c) variables stack = pushed stack (Value (Char c))
made (i.Truth b) variables stack = pushed stack (Value (Truth b))
made i.Nil variables stack = pushed stack (Value Nil)
made (i.Text text) variables stack = pushed stack (fitting (text_of text))
made (i.Load v) variables stack = pushed stack (perhaps (slice_get variables v) Value)
made i.Cons variables stack = on_two stack (λ v u. fitting (Cell v u))
made i.Pair variables stack = on_two stack (λ v u. fitting (Pair v u))
made (i.Build c n) variables stack = built_of c (popped n [] stack)
made (i.Op op) variables stack = operated op stack
made x variables stack = Stops Faulty

-- those are the operands, or it breaks so, unless memory is out
abbrev pub Tells : After → Effect → List Tree → Type 0
Tells after e.Done operands = after ≡ Leaves operands
Tells after e.TooDeep operands = after ≡ Stops TooDeep
Tells after e.Faulty operands = after ≡ Stops Faulty
Tells after e.OutOfMemory operands = Unit {0}

-- the value, or that the operands are of wrong kinds
abbrev pub IsResult : Result → Option Tree → Type 0
IsResult r (Some v) = r ≡ Value v
IsResult r None = r ≡ Broken Faulty

-- the variables are set, or one of the values isn't there
abbrev pub Sets : Option (List Tree) → RowEffect → List Tree → Type 0
Sets o r.Done variables = o ≡ Some variables
Sets o r.Missing variables = o ≡ None
Sets o r.OutOfMemory variables = Unit {0}
