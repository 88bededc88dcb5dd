-- The breadth-first order of a plug's parts.
use Rattle.std.specs.Prelude.{◌≡◌, ℕ, ◌+◌, ◌<◌, ◌≤◌, ◌⊎◌, List, Some, slice_get}
use Rattle.campl_plug.specs.declared.plug.Link.{Link}
use Rattle.campl_plug.specs.Links.{IsPart, Joins, Linked, Path}

-- the shortest path from part 1 to the part has n links
pub record IsDistance (links : List Link) (p n : ℕ) : Type 0 where
  pub path : Path links n 1 p
  pub shortest : (m : ℕ) → Path links m 1 p → n ≤ m

-- p is the part before q on a shortest path from part 1 to q
pub record IsPredecessor (links : List Link) (p q : ℕ) : Type 0 where
  pub linked : Linked links p q
  pub nearer : (n : ℕ) × IsDistance links p n × IsDistance links q (n + 1)

-- p stands before q in the list
abbrev pub IsBefore : List ℕ → ℕ → ℕ → Type 0
IsBefore order p q = (i j : ℕ) × (i < j) × (slice_get order i ≡ Some p) × (slice_get order j ≡ Some q)

-- part 1 is nearer to p than to q
abbrev pub IsNearer : List Link → ℕ → ℕ → Type 0
IsNearer links p q = (m n : ℕ) × IsDistance links p m × IsDistance links q n × (m < n)

-- part 1 is as near to p as to q
abbrev pub AreAsNear : List Link → ℕ → ℕ → Type 0
AreAsNear links p q = (n : ℕ) × IsDistance links p n × IsDistance links q n

-- the predecessor of p stands before that of q in the list
abbrev pub HasEarlierPredecessor : List Link → List ℕ → ℕ → ℕ → Type 0
HasEarlierPredecessor links order p q = (r s : ℕ) × IsPredecessor links r p × IsPredecessor links s q × IsBefore order r s

-- the two parts have one predecessor, and p has the lower number
abbrev pub HasLowerNumber : List Link → ℕ → ℕ → Type 0
HasLowerNumber links p q = (r : ℕ) × IsPredecessor links r p × IsPredecessor links r q × (p < q)

-- by distance, then in order of their predecessor in this order, then by number, p comes before q
abbrev pub ComesFirst : List Link → List ℕ → ℕ → ℕ → Type 0
ComesFirst links order p q = IsNearer links p q ⊎ (AreAsNear links p q × (HasEarlierPredecessor links order p q ⊎ HasLowerNumber links p q))

-- the breadth-first order: each of the parts once, sorted by the three keys
pub record IsBreadthFirst (k : ℕ) (links : List Link) (order : List ℕ) : Type 0 where
  pub parts_alone : (i p : ℕ) → slice_get order i ≡ Some p → IsPart k p
  pub each_part : (p : ℕ) → IsPart k p → (i : ℕ) × (slice_get order i ≡ Some p)
  pub once : (i j p : ℕ) → slice_get order i ≡ Some p → slice_get order j ≡ Some p → i ≡ j
  pub sorted : (p q : ℕ) → IsBefore order p q → ComesFirst links order p q

-- link i joins q to a part that stands before it
abbrev pub IsLinkBack : List Link → List ℕ → ℕ → ℕ → Type 0
IsLinkBack links order q i = (link : Link) × (p : ℕ) × (slice_get links i ≡ Some link) × Joins link p q × IsBefore order p q

-- exactly one link joins q to the parts before it
abbrev pub HasOneLinkBack : List Link → List ℕ → ℕ → Type 0
HasOneLinkBack links order q = (i : ℕ) × IsLinkBack links order q i × ((j : ℕ) → IsLinkBack links order q j → j ≡ i)
