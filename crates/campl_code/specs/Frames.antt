-- Frames: what a call, or a process between two of its commands, has in hand.
use Rattle.std.specs.Prelude.{ℕ, suc, ◌+◌, ◌-◌, max, List, [], ◌∷◌, ◌++◌, Option, Some, None, slice_get, slice_set, replicate}
use Rattle.campl_value.specs.Tree.{Tree, Nil}
use Rattle.campl_code.specs.Decisions.{Decision}
use Rattle.campl_code.specs.Instructions.{Operation, Instr, Block, Code, blocks}
use Rattle.campl_code.specs.Instructions as i

-- a block's number, the place in it, the variables, and the operands with the top first
pub record Frame : Type 0 where
  pub block : ℕ
  pub at : ℕ
  pub vars : List Tree
  pub stack : List Tree

abbrev pub greatest : List ℕ → ℕ
greatest [] = 0
greatest (n ∷ ns) = max n (greatest ns)

-- one more than the greatest number that is set from here on
abbrev pub reach : ℕ → Option Decision → ℕ
reach v None = suc v
reach v (Some d) = max (suc v) (v + greatest d.bound)

-- one more than the greatest number of a variable that an instruction names or sets
abbrev pub named : List Decision → Instr → ℕ
named ds (i.Load v) = suc v
named ds (i.Match m v rows) = reach v (slice_get ds m)
named ds (i.Case m v rows) = reach v (slice_get ds m)
named ds (i.Get e v) = suc v
named ds _ = 0

abbrev pub named_in : List Decision → List Instr → ℕ
named_in ds [] = 0
named_in ds (x ∷ code) = max (named ds x) (named_in ds code)

-- how many variables a block's frame has
abbrev pub frame_size : List Decision → Block → ℕ
frame_size ds b = max b.variables (named_in ds b.code)

-- a variable that wasn't set holds `[]`
abbrev pub frame_of : List Decision → Block → List Tree → List Tree
frame_of ds b vs = vs ++ replicate (frame_size ds b - b.variables) Nil

-- variables from a number on
abbrev pub set_from : ℕ → List Tree → List Tree → List Tree
set_from n [] vars = vars
set_from n (v ∷ vs) vars = set_from (suc n) vs (slice_set vars n v)

-- a frame at a place of a block, with nothing on the stack
abbrev pub frame_at : ℕ → ℕ → List Tree → Frame
frame_at block at vars = record { block = block; at = at; vars = vars; stack = [] }
