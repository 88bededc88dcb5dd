-- What one read of a file gives.
use Rattle.std.specs.Prelude.{◌≡◌, ℕ, ◌≤◌, ◌↔◌, List, length, take, drop}

-- the first n bytes of into are the bytes of the contents from place `at` on, and none are given just at the end and past it
pub record IsGiven (contents : List ℕ) (at n : ℕ) (into : List ℕ) : Type 0 where
  pub bytes : take n into ≡ take n (drop at contents)
  pub end : (n ≡ 0) ↔ (length contents ≤ at)
