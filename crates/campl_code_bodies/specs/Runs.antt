-- Whole runs: who makes each step, and as which branch of a race, with the events.
use Rattle.std.specs.Prelude.{◌≡◌, ℕ, List, [], ◌∷◌, Some}
use Rattle.campl_machine.specs.Names.{Who}
use Rattle.campl_types.specs.World.{World}
use Rattle.campl_meaning.specs.Reductions.{Configuration, Event, reduce}
use Rattle.campl_code.specs.Instructions.{Code}
use Rattle.campl_code_bodies.specs.Running.{CodeConfiguration, IsEnough, reduce_code}

abbrev pub Steps : Type 0
Steps = List (Who × ℕ)

-- the source comes from one configuration to the other by these steps, with these events
abbrev pub SourceGoes : World → Configuration → Steps → List Event → Configuration → Type 0
SourceGoes w c [] events d = (events ≡ []) × (c ≡ d)
SourceGoes w c (s ∷ steps) events d =
    (event : Event) × (more : List Event) × (next : Configuration) × (events ≡ event ∷ more) × (reduce w c s.0 s.1 ≡ Some (event, next)) × SourceGoes w next steps more d

-- and so the code, with as many instructions for each step as it takes
abbrev pub CodeGoes : Code → CodeConfiguration → Steps → List Event → CodeConfiguration → Type 0
CodeGoes code c [] events d = (events ≡ []) × (c ≡ d)
CodeGoes code c (s ∷ steps) events d =
    (n : ℕ) × (event : Event) × (more : List Event) × (next : CodeConfiguration) × (events ≡ event ∷ more) × IsEnough code n (c.nodes s.0)
    × (reduce_code code n c s.0 s.1 ≡ Some (event, next)) × CodeGoes code next steps more d
