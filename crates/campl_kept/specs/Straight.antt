-- Commands whose expressions make one value after another, without a jump, a match or a call.
use Rattle.std.specs.Prelude.{ℕ, suc, Bool, true, false, List, [], ◌∷◌, Option, Some, None, option_map, if◌then◌else◌}
use Rattle.campl_value.specs.Tree.{Tree}
use Rattle.campl_code.specs.Instructions.{Instr, Block}
use Rattle.campl_code.specs.Instructions as i
use Rattle.campl_code.specs.Machine.{is_command}
use Rattle.campl_operands.specs.Effects.{After, Leaves, Stops, made}

-- the instructions of a block, where it is there
abbrev pub code_in : Option Block → List Instr
code_in None = []
code_in (Some b) = b.code

-- it makes a value of the variables and of the operands
abbrev pub is_straight : Instr → Bool
is_straight (i.Int x) = true
is_straight (i.Char c) = true
is_straight (i.Truth b) = true
is_straight i.Nil = true
is_straight (i.Text text) = true
is_straight (i.Load v) = true
is_straight i.Cons = true
is_straight i.Pair = true
is_straight (i.Build c n) = true
is_straight (i.Op op) = true
is_straight x = false

-- on with the operands, where there is no break
abbrev pub left : After → (List Tree → Option (List Tree)) → Option (List Tree)
left (Leaves stack) f = f stack
left (Stops b) f = None

-- the operands behind such instructions, where none breaks
abbrev pub all_made : (vars stack : List Tree) → List Instr → Option (List Tree)
all_made vars stack [] = Some stack
all_made vars stack (x ∷ code) = left (made x vars stack) (λ stack. all_made vars stack code)

-- how many such instructions are before a process's instruction, where no others are
abbrev pub reach : List Instr → Option ℕ
reach [] = None
reach (x ∷ code) = if is_command x then Some 0 else (if is_straight x then option_map suc (reach code) else None)
