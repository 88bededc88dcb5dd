-- How a run by number ends, and what its services say of it.
use Rattle.std.specs.Prelude.{◌≡◌, ℕ, Option, Some, None}
use Rattle.campl_machine.specs.Names.{End}
use Rattle.campl_meaning.specs.Ends.{Ending, Finished, Awaiting, OutOfSteps, Broken}
use Rattle.campl_meaning.specs.States as s
use Rattle.campl_meaning.specs.States.{State}
use Rattle.campl_code_bodies.specs.Kept as kept
use Rattle.campl_cells.specs.Parts.{Held, Life, Ended, Runs, Serves, Parts, Proc}

-- some process is left
abbrev pub HasRunning : Parts → Type 0
HasRunning m = (p : ℕ) × (q : Proc) × (h : Held) × (m.process p ≡ Some q) × (q.life ≡ Runs h)

-- some process keeps that it broke
abbrev pub HasBroken : Parts → Type 0
HasBroken m = (p : ℕ) × (q : Proc) × (h : Held) × (m.process p ≡ Some q) × (q.life ≡ Runs h) × (h.kept ≡ kept.Broken)

-- a run that rests here ends so
abbrev pub EndsAs : Parts → Ending → Type 0
EndsAs m Finished = HasRunning m → ⊥
EndsAs m Broken = HasBroken m
EndsAs m Awaiting = HasRunning m × (HasBroken m → ⊥)
EndsAs m OutOfSteps = ⊥

-- what the source has at the name of a service with this life
abbrev pub service_state : (ℕ → End) → Life → Option State
service_state name Ended = None
service_state name (Runs h) = None
service_state name (Serves e serving) = Some (s.Serves (record { end = name e; serving = serving }))
