-- When the parts form a tree, and what else can stand in the way.
use Rattle.std.specs.Prelude.{◌≡◌, ℕ, ◌+◌, ◌<◌, List, Some, length, take, slice_get}
use Rattle.campl_plug.specs.declared.plug.Link.{Link}
use Rattle.campl_plug.specs.Links.{IsPart, Joined}

-- a path of links leads from part 1 to each part
abbrev pub AreReached : ℕ → List Link → Type 0
AreReached k links = (p : ℕ) → IsPart k p → Joined links 1 p

-- k parts form a tree: k - 1 links join them, and each part is reached
pub record IsTree (k : ℕ) (links : List Link) : Type 0 where
  pub count : length links + 1 ≡ k
  pub reached : AreReached k links

-- the links before link i, counted from 0, join its two parts, or they are the same part
abbrev pub ClosesCycle : List Link → ℕ → Type 0
ClosesCycle links i = (link : Link) × (slice_get links i ≡ Some link) × Joined (take i links) link.a link.b

-- each link joins two parts that weren't joined before
abbrev pub HasNoCycle : List Link → Type 0
HasNoCycle links = (i : ℕ) → ¬ ClosesCycle links i

-- the first link that closes a cycle
pub record IsFirstCycle (links : List Link) (i : ℕ) : Type 0 where
  pub closes : ClosesCycle links i
  pub first : (j : ℕ) → j < i → ¬ ClosesCycle links j

-- the least part that isn't reached from part 1
pub record IsLeastApart (k : ℕ) (links : List Link) (p : ℕ) : Type 0 where
  pub part : IsPart k p
  pub apart : ¬ Joined links 1 p
  pub least : (q : ℕ) → IsPart k q → q < p → Joined links 1 q
