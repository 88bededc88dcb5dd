-- Names with the numbers of the functions that are declared under them.
use Rattle.std.specs.Prelude.{◌≡◌, ℕ, ◌+◌, List, Option, Some, None, option_map}
use Rattle.std.specs.Map.{lookup}
use Rattle.campl_types.specs.Names.{Name, same_name}
use Rattle.campl_types.specs.World.{World}
use Rattle.campl_code.specs.Generated.{function_number}

-- what is known stays, and else the name has this number
abbrev pub known_or : Option ℕ → Option ℕ → Option ℕ
known_or (Some m) later = Some m
known_or None later = later

-- each name has the number of its function
abbrev pub AreNumbered : List (Name × ℕ) → World → Type 0
AreNumbered entries w = (x : List ℕ) → lookup (same_name x) entries ≡ function_number w x

-- behind entries of the functions before, which are n, come those of these declarations
abbrev pub numbered_on : List (Name × ℕ) → (n : ℕ) → World → Name → Option ℕ
numbered_on entries n w x = known_or (lookup (same_name x) entries) (option_map (λ k. n + k) (function_number w x))
