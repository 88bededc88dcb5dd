-- The blocks of processes in the steps in which they are made.
use Rattle.std.specs.Prelude.{ℕ, ◌+◌, List, [], ◌∷◌, ◌++◌, length}
use Rattle.campl_tree.specs.declared.process.Binder.{Binder}
use Rattle.campl_tree.specs.Plain.Decl.{ProcessDecl}
use Rattle.campl_types.specs.World.{World}
use Rattle.campl_code.specs.Decisions.{Decision}
use Rattle.campl_code.specs.Instructions.{Instr, Block}
use Rattle.campl_code_bodies.specs.BodyCode.{Made}
use Rattle.campl_code_bodies.specs.BodySizes.{body_size}
use Rattle.campl_code_bodies.specs.SourceCode.{first_channels, process_made, process_block}
use Rattle.campl_gen_exprs.specs.Functions.{fresh}
use Rattle.campl_gen_bodies.specs.Making.{Making, received, built}

-- before a block, behind the decisions so far
abbrev pub begun : Making → Making
begun s = record { emission = fresh (length s.decisions); decisions = s.decisions }

-- the parameters, in order
abbrev pub all_received : List Binder → Making → Making
all_received [] s = s
all_received (v ∷ vs) s = all_received vs (received v s)

-- a process's block and decisions
abbrev pub process_built : World → ProcessDecl → Making → Making
process_built w d s = built w d.row.body (length d.row.inputs + length d.row.outputs) (first_channels d) (all_received d.row.variables (begun s))

-- what is made of a process, whatever its body's size
abbrev pub whole_process : World → ProcessDecl → (dec : ℕ) → Made
whole_process w d dec = process_made w (body_size d.row.body) d dec

-- a process's block with this code
abbrev pub block_with : ProcessDecl → List Instr → Block
block_with d code = record { name = d.name.name; variables = length d.row.variables; inputs = length d.row.inputs; outputs = length d.row.outputs; code = code }

-- the blocks and the decisions of processes
abbrev pub blocks_from : World → List ProcessDecl → (dec : ℕ) → List Block
blocks_from w [] dec = []
blocks_from w (d ∷ ds) dec = block_with d (whole_process w d dec).code ∷ blocks_from w ds (dec + length (whole_process w d dec).decisions)

abbrev pub decisions_from : World → List ProcessDecl → (dec : ℕ) → List Decision
decisions_from w [] dec = []
decisions_from w (d ∷ ds) dec = (whole_process w d dec).decisions ++ decisions_from w ds (dec + length (whole_process w d dec).decisions)
