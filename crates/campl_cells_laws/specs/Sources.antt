-- When parts by number stand for a configuration of the source.
use Rattle.std.specs.Prelude.{◌≡◌, ℕ, ◌+◌, [], Option, Some, None, List, codes, length, slice_get}
use Rattle.campl_types.specs.World.{World}
use Rattle.campl_service.specs.Scripts.{Lines}
use Rattle.campl_meaning.specs.Reductions.{Configuration, Event}
use Rattle.campl_code.specs.Instructions.{Block, Code}
use Rattle.campl_code.specs.Frames.{frame_of}
use Rattle.campl_code_bodies.specs.BodyCode.{process_number}
use Rattle.campl_code_bodies.specs.Kept.{Kept}
use Rattle.campl_code_bodies.specs.Running.{CodeConfiguration, Stand}
use Rattle.campl_cells.specs.Parts.{Life, Parts, Proc}
use Rattle.campl_cells.specs.Wants.{Drawn}
use Rattle.campl_cells.specs.Steps.{Change, IsChildOf, IsLifeOf, KeptAt, after}
use Rattle.campl_cells.specs.Stands.{Grows, Naming, StandsFor, named_entry}
use Rattle.campl_cells.specs.Starts.{start_parts}

-- the parts stand for a configuration of the code that stands for this one of the source
pub record Represents (w : World) (code : Code) (n : Naming) (m : Parts) (d : Configuration) : Type 0 where
  pub between : CodeConfiguration
  pub by_number : StandsFor code n m between
  pub by_terms : Stand w code between d

-- the parts at the start of a source, with what `run` keeps of its first command
pub record IsStartOf (w : World) (code : Code) (scripts : List Lines) (m : Parts) : Type 0 where
  pub number : ℕ
  pub block : Block
  pub kept : Kept
  pub numbered : process_number w (codes "run") ≡ Some number
  pub there : slice_get code.processes number ≡ Some block
  pub keeps : KeptAt code (length code.functions + number) 0 (frame_of code.decisions block []) kept
  pub is : m ≡ start_parts w code number kept scripts

-- no reduction, and no change; or the event that the entry tells, and all parts to which the change leads represent what the
-- reduction gives, under a naming that leaves the old names
abbrev pub ReducesAs : World → Code → Naming → Drawn → Parts → (p : ℕ) → Proc → Option (Event × Configuration) → Option Change → Type 0
ReducesAs w code n d m p q None None = Unit {0}
ReducesAs w code n d m p q (Some r) (Some change) = (n2 : Naming) × Grows n n2 m × (r.0 ≡ named_entry n2 change.entry) ×
    ((life : Life) (child : Option Life) → IsLifeOf code change.next life → IsChildOf code change.child child → Represents w code n2 (after d m p q change life child) r.1)
ReducesAs w code n d m p q (Some r) None = ⊥
ReducesAs w code n d m p q None (Some change) = ⊥
