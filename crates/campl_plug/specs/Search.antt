-- What one step of the search adds to the order.
use Rattle.std.specs.Prelude.{◌≡◌, ℕ, ◌<◌, ◌⊎◌, List, Some, slice_get}
use Rattle.campl_plug.specs.declared.plug.Link.{Link}
use Rattle.campl_plug.specs.Links.{IsPart, Linked}

-- the parts that a link joins to p and that don't stand in the order, in order of their number
pub record AreNewNeighbours (k : ℕ) (links : List Link) (order : List ℕ) (p : ℕ) (found : List ℕ) : Type 0 where
  pub rising : (i j q r : ℕ) → i < j → slice_get found i ≡ Some q → slice_get found j ≡ Some r → q < r
  pub parts_alone : (i q : ℕ) → slice_get found i ≡ Some q → IsPart k q
  pub linked : (i q : ℕ) → slice_get found i ≡ Some q → Linked links p q
  pub unseen : (i j q : ℕ) → slice_get found i ≡ Some q → slice_get order j ≡ Some q → ⊥
  pub each : (q : ℕ) → IsPart k q → Linked links p q → ((i : ℕ) × (slice_get order i ≡ Some q)) ⊎ ((i : ℕ) × (slice_get found i ≡ Some q))
