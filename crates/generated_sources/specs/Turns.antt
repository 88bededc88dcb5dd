-- Runs of code that compute: turns are tried in an order, and the first that is a reduction is made.
use Rattle.std.specs.Prelude.{ℕ, zero, suc, List, [], ◌∷◌, Option, Some, None, option_map}
use Rattle.campl_machine.specs.Names.{Who, Process, Service}
use Rattle.campl_tree.specs.Plain.Decl.{Program}
use Rattle.campl_types.specs.World.{world_of}
use Rattle.campl_service.specs.Scripts.{Lines}
use Rattle.campl_service.specs.Transcripts.{Records}
use Rattle.campl_meaning.specs.States.{Serves}
use Rattle.campl_code.specs.Instructions.{Code}
use Rattle.campl_code_bodies.specs.Commands.{CodeState, Beside}
use Rattle.campl_code_bodies.specs.Running.{CodeConfiguration, code_begins, reduce_code}
use Rattle.campl_code_bodies.specs.SourceCode.{source_code}

-- A process or service, and a branch of a race that it may take
abbrev pub Turn : Type 0
Turn = Who × ℕ

abbrev pub or_try : Option CodeConfiguration → Option CodeConfiguration → Option CodeConfiguration
or_try None later = later
or_try (Some c) later = Some c

-- the first turn that is a reduction, with at most so many instructions in it
abbrev pub tried : Code → ℕ → List Turn → CodeConfiguration → Option CodeConfiguration
tried code most [] c = None
tried code most (t ∷ ts) c = or_try (option_map (λ d. d.1) (reduce_code code most c t.0 t.1)) (tried code most ts c)

abbrev pub go_on : (ℕ → CodeConfiguration → ℕ × CodeConfiguration) → ℕ → CodeConfiguration → Option CodeConfiguration → ℕ × CodeConfiguration
go_on next n c None = (n, c)
go_on next n c (Some d) = next (suc n) d

-- at most k of them, one after another, with the number of those made
abbrev pub gone : ℕ → Code → ℕ → List Turn → ℕ → CodeConfiguration → ℕ × CodeConfiguration
gone zero code most ts n c = (n, c)
gone (suc k) code most ts n c = go_on (gone k code most ts) n c (tried code most ts c)

-- from the start of a source's code, with these scripts
abbrev pub from_start : ℕ → Program → List Turn → List Lines → Option (ℕ × CodeConfiguration)
from_start k source ts scripts = option_map (gone k (source_code source) 100 ts 0) (code_begins (world_of source) (source_code source) scripts)

abbrev pub run : Turn
run = (Process [], 0)

-- the child of run's step n
abbrev pub child : ℕ → Turn
child n = (Process (record { step = n; place = 1 } ∷ []), 0)

abbrev pub service : ℕ → Turn
service n = (Service n, 0)

abbrev pub transcript_in : Option CodeState → Records
transcript_in (Some (Beside (Serves s))) = s.serving.transcript
transcript_in s = []

-- what a run gives: its steps, and what the services have written down
abbrev pub told : List ℕ → Option (ℕ × CodeConfiguration) → Option (ℕ × List Records)
told ns = option_map (λ r. (r.0, list ns r.1))
  where
    list : List ℕ → CodeConfiguration → List Records
    list [] c = []
    list (n ∷ more) c = transcript_in (c.nodes (Service n)) ∷ list more c
