-- The number of a process among declarations.
use Rattle.std.proofs.Common.{ℕ, ◌+◌, Option, option_map}
use Rattle.campl_names.proofs.Letters.{spelled-run}

pub ruleset letters = (spelled-run)

-- a number behind so many others
abbrev pub behind_of : ℕ → Option ℕ → Option ℕ
behind_of n o = option_map (λ k. n + k) o
