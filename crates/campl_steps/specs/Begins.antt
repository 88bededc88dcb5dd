-- The configuration at the start.
use Rattle.std.specs.Prelude.{◌≡◌, ℕ, zero, suc, ◌+◌, List, [], ◌∷◌, Some, None, length, map, slice_get}
use Rattle.campl_service.specs.Services.{Serving}
use Rattle.campl_code.specs.Instructions.{Block, Code}
use Rattle.campl_code.specs.Frames.{frame_of}
use Rattle.campl_code_bodies.specs.Kept.{Kept}
use Rattle.campl_cells.specs.Parts.{Life, Proc, Runs, Serves, far, written}
use Rattle.campl_cells.specs.Steps.{KeptAt, borne}
use Rattle.campl_cells.specs.Starts.{first_ends, unborn}
use Rattle.campl_parts.specs.Views.{proc_of}
use Rattle.campl_steps.specs.declared.config.Config.{Config}
use Rattle.campl_steps.specs.Configs.{parts}

-- so many channels from n on
abbrev pub channels_from : (n count : ℕ) → List ℕ
channels_from n zero = []
channels_from n (suc k) = n ∷ channels_from (suc n) k

-- what the process with this number of the code keeps before its first command
abbrev pub KeepsFirst : Code → (number : ℕ) → Kept → Type 0
KeepsFirst code number kept = (b : Block) → slice_get code.processes number ≡ Some b → KeptAt code (length code.functions + number) 0 (frame_of code.decisions b []) kept

-- that process, with the near ends of so many channels
abbrev pub first_life : Code → (number count : ℕ) → Kept → Life
first_life code number count kept = Runs (record { block = length code.functions + number; ends = first_ends count; kept = kept })

abbrev pub IsFirstLife : Code → (number count : ℕ) → Life → Type 0
IsFirstLife code number count life = (kept : Kept) × KeepsFirst code number kept × (life ≡ first_life code number count kept)

-- services at the far ends of the channels from n on
abbrev pub attending : ℕ → List Serving → List Proc
attending n [] = []
attending n (s ∷ servings) = unborn (Serves (far n) s) ∷ attending (suc n) servings

-- the process has the near ends of all channels, and a service stands at each far end
pub record IsStart (code : Code) (number : ℕ) (servings : List Serving) (c : Config) : Type 0 where
  pub kept : Kept
  pub keeps : KeepsFirst code number kept
  pub process : map proc_of c.processes.items ≡ unborn (first_life code number (length servings) kept) ∷ attending 0 servings
  pub tips : (parts c).tip ≡ written (borne (channels_from 0 (length servings))) (λ e. None)
