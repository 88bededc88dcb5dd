-- Names with the numbers of the processes that are declared under them.
use Rattle.std.specs.Prelude.{◌≡◌, ℕ, ◌+◌, List, Option, option_map}
use Rattle.std.specs.Map.{lookup}
use Rattle.campl_types.specs.Names.{Name, same_name}
use Rattle.campl_types.specs.World.{World}
use Rattle.campl_code_bodies.specs.BodyCode.{process_number}
use Rattle.campl_gen_exprs.specs.Sources.{known_or}

-- each name has the number of its process
abbrev pub AreNumbered : List (Name × ℕ) → World → Type 0
AreNumbered entries w = (x : List ℕ) → lookup (same_name x) entries ≡ process_number w x

-- behind entries of the processes before, which are n, come those of these declarations
abbrev pub numbered_on : List (Name × ℕ) → (n : ℕ) → World → Name → Option ℕ
numbered_on entries n w x = known_or (lookup (same_name x) entries) (option_map (λ k. n + k) (process_number w x))
