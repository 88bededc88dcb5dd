-- How a run ends.
use Rattle.std.specs.Prelude.{◌≡◌, ℕ, [], Option, Some, None}
use Rattle.campl_machine.specs.Names.{Path, Who, Process, Service}
use Rattle.campl_machine.specs.Machine.{Act, Moves, Looks, Links, Stands, Breaks, performs}
use Rattle.campl_types.specs.World.{World}
use Rattle.campl_service.specs.declared.phase.Want.TheVariants.{Spent}
use Rattle.campl_service.specs.Services.{want}
use Rattle.campl_service.specs.Transcripts.{Records}
use Rattle.campl_meaning.specs.States.{State, Runs, Serves, Attending, Message}
use Rattle.campl_meaning.specs.Reductions.{Configuration, Event, act_of, reduce}

-- the node may make a reduction
abbrev pub MayReduce : World → Configuration → Who → Type 0
MayReduce w c who = (i : ℕ) × (next : Event × Configuration) × (reduce w c who i ≡ Some next)

-- some reduction may happen
abbrev pub IsEnabled : World → Configuration → Type 0
IsEnabled w c = (who : Who) × MayReduce w c who

-- no process is left
abbrev pub HasNoProcess : Configuration → Type 0
HasNoProcess c = (p : Path) → c.nodes (Process p) ≡ None

-- some process is left
abbrev pub HasProcess : Configuration → Type 0
HasProcess c = (p : Path) × (state : State) × (c.nodes (Process p) ≡ Some state)

-- an act that can never happen: also the identity of an end with itself or with its partner
abbrev pub NeverActs : Configuration → Who → Act State Message → Type 0
NeverActs c who Breaks = Unit {0}
NeverActs c who (Links x y) = performs c who (Links x y) ≡ None
NeverActs c who (Moves m) = ⊥
NeverActs c who (Looks takes x f) = ⊥
NeverActs c who Stands = ⊥

-- this process is broken
abbrev pub IsBrokenAt : World → Configuration → Path → Type 0
IsBrokenAt w c p = (state : State) × (c.nodes (Process p) ≡ Some state) × NeverActs c (Process p) (act_of w (Process p) state 0)

-- the service n was asked for a line with its script spent
abbrev pub IsAsked : Configuration → ℕ → Type 0
IsAsked c n = (s : Attending) × (c.nodes (Service n) ≡ Some (Serves s)) × (want s.serving ≡ Spent)

pub data Ending : Type 0 where
  Finished : Ending
  Awaiting : Ending
  OutOfSteps : Ending
  Broken : Ending

-- a configuration, reached in so many steps of a budget, is the end of a run
abbrev pub IsEnd : World → Configuration → (steps budget : ℕ) → Ending → Type 0
IsEnd w c steps budget Finished = HasNoProcess c × (IsEnabled w c → ⊥)
IsEnd w c steps budget Broken = (IsEnabled w c → ⊥) × ((p : Path) × IsBrokenAt w c p)
IsEnd w c steps budget Awaiting = (IsEnabled w c → ⊥) × ((p : Path) → IsBrokenAt w c p → ⊥) × HasProcess c × ((n : ℕ) × IsAsked c n)
IsEnd w c steps budget OutOfSteps = (steps ≡ budget) × IsEnabled w c

abbrev pub transcript_in : Option State → Records
transcript_in None = []
transcript_in (Some (Runs r)) = []
transcript_in (Some (Serves s)) = s.serving.transcript

-- what the service n has written down
abbrev pub transcript_of : ℕ → Configuration → Records
transcript_of n c = transcript_in (c.nodes (Service n))
