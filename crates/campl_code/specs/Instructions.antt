-- Code as plain data.
use Rattle.std.specs.Prelude.{ℕ, ℤ, Bool, List, Option, ◌++◌}
use Rattle.campl_tree.specs.declared.expr.Comparison.{Comparison}
use Rattle.campl_tree.specs.declared.expr.Arithmetic.{Arithmetic}
use Rattle.campl_tree.specs.declared.service.Side.{Side}
use Rattle.campl_types.specs.Names.{Name}
use Rattle.campl_code.specs.Decisions.{Decision}

-- the fifteen operations
pub data Operation : Type 0 where
  Calculate : Arithmetic → Operation
  Compare : Comparison → Operation
  Negate : Operation
  Append : Operation
  CodeOf : Operation
  CharOf : Operation

-- variables and channels are named by their numbers, blocks and decisions by theirs, and places are those of the block
pub data Instr : Type 0 where
  -- constants
  Int : ℤ → Instr
  Char : ℕ → Instr
  Truth : Bool → Instr
  Nil : Instr
  Text : List ℕ → Instr
  Load : (variable : ℕ) → Instr
  Cons : Instr
  Pair : Instr
  -- a constructor's number and its number of parts
  Build : (number parts : ℕ) → Instr
  Op : Operation → Instr
  Jump : (to : ℕ) → Instr
  -- goes there where the top is False
  Unless : (to : ℕ) → Instr
  Call : (called : ℕ) → Instr
  -- the row's variables are set from the first on, and each row has its place
  Match : (decision first : ℕ) (places : List ℕ) → Instr
  Return : Instr
  -- From here on the instructions of a process. The same as `Match`, as a step of its own
  Case : (decision first : ℕ) (places : List ℕ) → Instr
  Put : (channel : ℕ) → Instr
  Get : (channel variable : ℕ) → Instr
  Pick : (channel number : ℕ) → Instr
  Split : (channel left right : ℕ) → Instr
  Close : (channel : ℕ) → Instr
  -- each constructor has its place
  Offer : (channel : ℕ) (places : List ℕ) → Instr
  -- goes on behind itself with the new channel, and the child begins at its place with its own
  Fork : (channel own its : ℕ) (child : ℕ) → Instr
  Halt : (channel : Option ℕ) → Instr
  Link : (channel other : ℕ) → Instr
  LinkNeg : (channel other : ℕ) → Instr
  -- a new channel, of which the child has the half on this side
  Peel : (channel : ℕ) → Side → (child : ℕ) → Instr
  -- each branch has its place
  Race : (places : List ℕ) → Instr
  -- a process's number, and the channels for its inputs and then its outputs
  Go : (called : ℕ) (channels : List ℕ) → Instr

pub record Block : Type 0 where
  pub name : Name
  -- the numbers of parameters, inputs and outputs
  pub variables : ℕ
  pub inputs : ℕ
  pub outputs : ℕ
  pub code : List Instr

pub record Code : Type 0 where
  pub functions : List Block
  pub processes : List Block
  pub decisions : List Decision

-- functions are numbered first, then processes
abbrev pub blocks : Code → List Block
blocks c = c.functions ++ c.processes
