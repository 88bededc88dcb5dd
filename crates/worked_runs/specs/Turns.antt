-- Runs that compute: turns are tried in an order, and the first that is a reduction is made.
use Rattle.std.specs.Prelude.{ℕ, zero, suc, List, [], ◌∷◌, Option, Some, None, option_map}
use Rattle.campl_machine.specs.Names.{Who, Process, Service}
use Rattle.campl_types.specs.World.{World}
use Rattle.campl_service.specs.Transcripts.{Records}
use Rattle.campl_meaning.specs.Reductions.{Configuration, reduce}
use Rattle.campl_meaning.specs.Ends.{transcript_of}

-- A process or service, and a branch of a race that it may take
abbrev pub Turn : Type 0
Turn = Who × ℕ

abbrev pub or_try : Option Configuration → Option Configuration → Option Configuration
or_try None later = later
or_try (Some c) later = Some c

-- the first turn that is a reduction
abbrev pub tried : World → List Turn → Configuration → Option Configuration
tried w [] c = None
tried w (t ∷ ts) c = or_try (option_map (λ d. d.1) (reduce w c t.0 t.1)) (tried w ts c)

abbrev pub go_on : (ℕ → Configuration → ℕ × Configuration) → ℕ → Configuration → Option Configuration → ℕ × Configuration
go_on next n c None = (n, c)
go_on next n c (Some d) = next (suc n) d

-- at most k of them, one after another, with the number of those made
abbrev pub gone : ℕ → World → List Turn → ℕ → Configuration → ℕ × Configuration
gone zero w ts n c = (n, c)
gone (suc k) w ts n c = go_on (gone k w ts) n c (tried w ts c)

abbrev pub run : Turn
run = (Process [], 0)

-- the child of run's step n
abbrev pub child : ℕ → Turn
child n = (Process (record { step = n; place = 1 } ∷ []), 0)

abbrev pub service : ℕ → Turn
service n = (Service n, 0)

-- what a run gives: its steps, and what it has written down
abbrev pub told : List ℕ → ℕ × Configuration → ℕ × List Records
told ns r = (r.0, list ns)
  where
    list : List ℕ → List Records
    list [] = []
    list (n ∷ more) = transcript_of n r.1 ∷ list more
