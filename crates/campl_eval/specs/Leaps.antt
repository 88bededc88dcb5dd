-- Several steps of a frame at once.
use Rattle.std.specs.Prelude.{◌≡◌, ℕ, zero, suc, ◌≤◌, List, ◌++◌, reverse, take, Option, Some, None, slice_get}
use Rattle.campl_value.specs.Tree.{Tree, Int}
use Rattle.campl_code.specs.Instructions.{Instr, Block, Code, blocks}
use Rattle.campl_code.specs.Instructions as i
use Rattle.campl_code.specs.Frames.{Frame}
use Rattle.campl_code.specs.Decisions.{Decision}
use Rattle.campl_code.specs.Machine.{Goes, matches, step}

-- so many steps lead from one frame to another, whatever frames wait
abbrev pub Ahead : Code → ℕ → Frame → Frame → Type 0
Ahead code zero f g = f ≡ g
Ahead code (suc n) f g = (h : Frame) × ((fs : List Frame) → step code f fs ≡ Goes h fs) × Ahead code n h g

-- some steps do
abbrev pub Comes : Code → Frame → Frame → Type 0
Comes code f g = (n : ℕ) × Ahead code n f g

-- the same where the frames' block is this one, and not back in it
pub record Within (b : Block) (f g : Frame) : Type 0 where
  pub same : g.block ≡ f.block
  pub onward : f.at ≤ g.at
  pub comes : (code : Code) → slice_get (blocks code) f.block ≡ Some b → Comes code f g

-- what a constant integer or a load puts on the operands
abbrev pub put_by : Instr → List Tree → Option Tree
put_by (i.Int x) vars = Some (Int x)
put_by (i.Load v) vars = slice_get vars v
put_by x vars = None

abbrev pub put_at : Option Instr → List Tree → Option Tree
put_at None vars = None
put_at (Some x) vars = put_by x vars

-- where the first n variables are on the operands, a match by this decision goes to this place and changes no variable
abbrev pub Passes : Decision → List Tree → (n first : ℕ) → (places : List ℕ) → (to : ℕ) → Type 0
Passes d vars n first places to = (block at : ℕ) (stack : List Tree) (fs : List Frame)
    → matches (Some d) first places (record { block = block; at = at; vars = vars; stack = reverse (take n vars) ++ stack }) fs ≡ Goes (record { block = block; at = to; vars = vars; stack = stack }) fs
