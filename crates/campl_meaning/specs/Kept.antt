-- Runs of any reductions, and what it means that a property is kept by them.
use Rattle.std.specs.Prelude.{List}
use Rattle.campl_machine.specs.Names.{Who}
use Rattle.campl_tree.specs.Plain.Decl.{Program}
use Rattle.campl_types.specs.World.{World, world_of}
use Rattle.campl_service.specs.Scripts.{Lines}
use Rattle.campl_meaning.specs.Reductions.{Configuration, Event, Reduces}
use Rattle.campl_meaning.specs.Start.{start}
use Rattle.campl_meaning.specs.Lawful.{IsAccepted, Lawful}

-- a reduction of this process or service, by any branch of a race
abbrev pub Goes : World → Configuration → Who → Configuration → Type 0
Goes w c who d = (event : Event) × Reduces w c who event d

-- the start of an accepted source is lawful, and each reduction of a lawful configuration leads to a lawful one: what typing is to prove
pub record IsKept (source : Program) : Type 0 where
  pub begins : (scripts : List Lines) → IsAccepted source → Lawful source (start (world_of source) scripts)
  pub goes_on : (c d : Configuration) (who : Who) → Lawful source c → Goes (world_of source) c who d → Lawful source d
