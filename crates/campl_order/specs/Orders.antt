-- What ranks tell of the names of processes and services.
use Rattle.std.specs.Prelude.{◌≡◌, ◌≢◌, ◌⊎◌, ◌≤◌, ◌<◌, ◌^◌, ◌-◌, ℕ, zero, suc, List, [], ◌∷◌, ◌++◌, length, slice_index_or}
use Rattle.campl_machine.specs.Names.{Birth, Path, Who, Process, Service}
use Rattle.campl_order.specs.declared.order.Rank.{Rank}

-- the depth that says that a rank is of a service
abbrev pub service_depth : ℕ
service_depth = 2 ^ 32 - 1

-- the birth by a process's step of this number, which bears one child
abbrev pub birth : ℕ → Birth
birth step = record { step = step; place = 1 }

abbrev pub no_rank : Rank
no_rank = record { depth = 0; parent = 0; jump = 0; born = 0 }

abbrev pub rank : List Rank → ℕ → Rank
rank rs i = slice_index_or rs i no_rank

-- i has this name, a service's; its number among the services stands where a process has its birth
abbrev pub IsServiceRank : Rank → Who → Type 0
IsServiceRank r name = (r.depth ≡ service_depth) × (name ≡ Service r.born)

-- the first process has the empty path; each other one the path of its parent, whose number is lower, and its birth
abbrev pub IsBorn : (ℕ → Who) → ℕ → Rank → Path → Type 0
IsBorn names i r path = ((r.depth ≡ 0) × (path ≡ [])) ⊎ ((r.parent < i) × ((above : Path) × (names r.parent ≡ Process above) × (path ≡ above ++ birth r.born ∷ [])))

-- the jump of a process leads to itself, as the first process's, or to an ancestor of a lower number
abbrev pub IsJump : (ℕ → Who) → ℕ → Rank → Path → Type 0
IsJump names i r path = ((r.depth ≡ 0) × (r.jump ≡ i)) ⊎ ((r.jump < i) × ((above : Path) × (rest : Path) × (names r.jump ≡ Process above) × (path ≡ above ++ rest)))

-- i has this name, a process's
pub record IsProcessRank (names : ℕ → Who) (i : ℕ) (r : Rank) (name : Who) : Type 0 where
  pub path : Path
  pub named : name ≡ Process path
  pub depth : r.depth ≡ length path
  pub shallow : r.depth ≤ i
  pub born : IsBorn names i r path
  pub jump : IsJump names i r path

-- the ranks tell these names, no two of which are the same
pub record Ranked (names : ℕ → Who) (rs : List Rank) : Type 0 where
  pub each : (i : ℕ) → i < length rs → IsServiceRank (rank rs i) (names i) ⊎ IsProcessRank names i (rank rs i) (names i)
  pub apart : (i j : ℕ) → i < length rs → j < length rs → names i ≡ names j → i ≡ j
  pub few : length rs < 2 ^ 32

-- a is the process i itself, or the ancestor where its jump leads, or where that one's jump leads
abbrev pub IsAbove : List Rank → ℕ → ℕ → Type 0
IsAbove rs i a = (a ≡ i) ⊎ (a ≡ (rank rs (rank rs i).jump).jump)

-- n has the name of the child that this step of the process bore, which no lower number has
abbrev pub IsChild : (ℕ → Who) → (parent born n : ℕ) → Type 0
IsChild names parent born n =
    ((above : Path) → names parent ≡ Process above → names n ≡ Process (above ++ birth born ∷ [])) × ((i : ℕ) → i < n → names i ≢ names n)

-- n has the name of this service, which no lower number has
abbrev pub IsNextService : (ℕ → Who) → (service n : ℕ) → Type 0
IsNextService names service n = (names n ≡ Service service) × ((i : ℕ) → i < n → names i ≢ Service service)

-- 0 is the first process, and behind it are the services
abbrev pub names_at_start : ℕ → Who
names_at_start zero = Process []
names_at_start (suc n) = Service n
