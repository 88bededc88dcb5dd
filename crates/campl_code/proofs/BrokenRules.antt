-- Each rule of code, broken once, and code that breaks none.
use Rattle.std.specs.Prelude.{◌≡◌, refl, ℕ, pos, true, List, [], ◌∷◌, Some, None}
use Rattle.campl_code.specs.Decisions.{Decision, Row, Fail}
use Rattle.campl_code.specs.Instructions.{Instr, Block, Code}
use Rattle.campl_code.specs.Instructions as i
use Rattle.campl_code.specs.Rules.{first_fault}

abbrev block : ℕ → List Instr → Block
block parameters code = record { name = 9 ∷ []; variables = parameters; inputs = 0; outputs = 0; code = code }

-- one process, without parameters and channels
abbrev process : List Instr → List Decision → Code
process code ds = record { functions = []; processes = block 0 code ∷ []; decisions = ds }

-- one function before it, with a parameter
abbrev function : List Instr → Code
function code = record { functions = block 1 code ∷ []; processes = block 0 (i.Halt None ∷ []) ∷ []; decisions = [] }

abbrev one_row : Decision
one_row = record { width = 1; bound = 1 ∷ []; tree = Row 0 ((0 ∷ []) ∷ []) }

-- a number is out of its range
variable : first_fault (process (i.Load 268435456 ∷ i.Put 0 ∷ i.Halt None ∷ []) []) ≡ Some (0, 0)
variable = refl

channel : first_fault (process (i.Close 0 ∷ i.Close 268435456 ∷ i.Halt None ∷ []) []) ≡ Some (0, 1)
channel = refl

called : first_fault (process (i.Call 0 ∷ i.Put 0 ∷ i.Halt None ∷ []) []) ≡ Some (0, 0)
called = refl

-- or one that a row sets
greatest_row : first_fault (process (i.Nil ∷ i.Case 0 268435455 (2 ∷ []) ∷ i.Halt None ∷ []) (one_row ∷ [])) ≡ None
greatest_row = refl

beyond_row : first_fault (process (i.Nil ∷ i.Case 0 268435455 (2 ∷ []) ∷ i.Halt None ∷ []) (record { width = 1; bound = 2 ∷ []; tree = Fail } ∷ [])) ≡ Some (0, 1)
beyond_row = refl

-- a place isn't in the block
place : first_fault (process (i.Jump 1 ∷ []) []) ≡ Some (0, 0)
place = refl

child_place : first_fault (process (i.Fork 0 1 2 2 ∷ i.Halt None ∷ []) []) ≡ Some (0, 0)
child_place = refl

-- too few operands, or more than a process's instruction takes
few : first_fault (process (i.Int (pos 1) ∷ i.Cons ∷ i.Halt None ∷ []) []) ≡ Some (0, 1)
few = refl

many : first_fault (process (i.Nil ∷ i.Nil ∷ i.Put 0 ∷ i.Halt None ∷ []) []) ≡ Some (0, 2)
many = refl

-- two ways with different heights; a child begins with none
ways : first_fault (process (i.Truth true ∷ i.Unless 3 ∷ i.Nil ∷ i.Halt None ∷ []) []) ≡ Some (0, 3)
ways = refl

child_height : first_fault (process (i.Fork 0 1 2 2 ∷ i.Nil ∷ i.Put 0 ∷ i.Halt None ∷ []) []) ≡ Some (0, 2)
child_height = refl

-- a list without a place for each row
rows : first_fault (process (i.Nil ∷ i.Case 0 0 [] ∷ i.Halt None ∷ []) (one_row ∷ [])) ≡ Some (0, 1)
rows = refl

-- a decision that names a row that isn't there, or gives it too few places
no_such_row : first_fault (process (i.Nil ∷ i.Case 0 0 [] ∷ i.Halt None ∷ []) (record { width = 1; bound = []; tree = Row 0 [] } ∷ [])) ≡ Some (0, 1)
no_such_row = refl

few_places : first_fault (process (i.Nil ∷ i.Case 0 0 (2 ∷ []) ∷ i.Halt None ∷ []) (record { width = 1; bound = 1 ∷ []; tree = Row 0 [] } ∷ [])) ≡ Some (0, 1)
few_places = refl

-- a channel too many for the called process
channels : first_fault (process (i.Go 0 (0 ∷ []) ∷ []) []) ≡ Some (0, 0)
channels = refl

-- a branch that isn't a receipt
branch : first_fault (process (i.Race (1 ∷ 3 ∷ []) ∷ i.Get 0 0 ∷ i.Halt None ∷ i.Close 1 ∷ i.Halt None ∷ []) []) ≡ Some (0, 0)
branch = refl

-- an instruction of the other kind of block
returns : first_fault (process (i.Nil ∷ i.Return ∷ []) []) ≡ Some (0, 1)
returns = refl

puts : first_fault (function (i.Load 0 ∷ i.Put 0 ∷ i.Nil ∷ i.Return ∷ [])) ≡ Some (0, 1)
puts = refl

-- the last one goes on, and a block is empty
open_end : first_fault (process (i.Close 0 ∷ []) []) ≡ Some (0, 0)
open_end = refl

empty : first_fault (process [] []) ≡ Some (0, 0)
empty = refl

-- processes are numbered behind functions, and the first fault is told
second_block : first_fault (record { functions = block 1 (i.Load 0 ∷ i.Return ∷ []) ∷ []; processes = block 0 (i.Nil ∷ i.Return ∷ []) ∷ []; decisions = [] }) ≡ Some (1, 1)
second_block = refl

-- an instruction that is never come to breaks no rule of the stack, and jumps may lead back
never : first_fault (process (i.Halt None ∷ i.Cons ∷ i.Halt None ∷ []) []) ≡ None
never = refl

back : first_fault (process (i.Jump 0 ∷ []) []) ≡ None
back = refl
