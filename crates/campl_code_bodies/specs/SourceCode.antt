-- The code that is generated for processes and for a source.
use Rattle.std.specs.Prelude.{◌≡◌, ℕ, ◌+◌, List, [], ◌∷◌, ◌++◌, length}
use Rattle.campl_tree.specs.Plain.Decl.{Program, ProcessDecl}
use Rattle.campl_types.specs.World.{World, world_of}
use Rattle.campl_code.specs.Decisions.{Decision, AllChooseAlike}
use Rattle.campl_code.specs.Instructions.{Block, Code}
use Rattle.campl_code.specs.Stands.{functions_of}
use Rattle.campl_code.specs.Generated.{function_blocks}
use Rattle.campl_code.specs.CaseDecisions.{decisions_of_functions}
use Rattle.campl_code_bodies.specs.Bodies.{Channels, processes_of, parameter_numbers, channel_numbers}
use Rattle.campl_code_bodies.specs.BodyCode.{Made, body_made}
use Rattle.campl_code_bodies.specs.BodySizes.{processes_size}

abbrev pub first_channels : ProcessDecl → Channels
first_channels d = channel_numbers 0 d.row.inputs ++ channel_numbers (length d.row.inputs) d.row.outputs

abbrev pub process_made : World → ℕ → ProcessDecl → (dec : ℕ) → Made
process_made w n d dec =
    body_made w n d.row.body 0 dec (length d.row.variables) (parameter_numbers 0 d.row.variables) (length d.row.inputs + length d.row.outputs) (first_channels d)

abbrev pub process_block : World → ℕ → ProcessDecl → (dec : ℕ) → Block
process_block w n d dec = record {
  name = d.name.name;
  variables = length d.row.variables;
  inputs = length d.row.inputs;
  outputs = length d.row.outputs;
  code = (process_made w n d dec).code;
}

abbrev pub process_blocks : World → ℕ → List ProcessDecl → (dec : ℕ) → List Block
process_blocks w n [] dec = []
process_blocks w n (d ∷ ds) dec = process_block w n d dec ∷ process_blocks w n ds (dec + length (process_made w n d dec).decisions)

abbrev pub process_decisions : World → ℕ → List ProcessDecl → (dec : ℕ) → List Decision
process_decisions w n [] dec = []
process_decisions w n (d ∷ ds) dec =
    (process_made w n d dec).decisions ++ process_decisions w n ds (dec + length (process_made w n d dec).decisions)

-- the code of a world whose bodies are fewer than n commands deep
abbrev pub code_within : World → ℕ → Code
code_within w n =
    let ds = decisions_of_functions w (functions_of w) in
    record {
      functions = function_blocks w (functions_of w) 0;
      processes = process_blocks w n (processes_of w) (length ds);
      decisions = ds ++ process_decisions w n (processes_of w) (length ds);
    }

-- the code that is generated for a source
abbrev pub source_code : Program → Code
source_code source = code_within (world_of source) (processes_size (processes_of (world_of source)))

-- the same blocks, with decisions that choose as those do
pub record IsCodeOf (source : Program) (code : Code) : Type 0 where
  pub functions : (source_code source).functions ≡ code.functions
  pub processes : (source_code source).processes ≡ code.processes
  pub decisions : AllChooseAlike (source_code source).decisions code.decisions
