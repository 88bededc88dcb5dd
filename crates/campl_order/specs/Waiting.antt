-- Who may have a step is flagged; of all others it is known on which ends they wait.
use Rattle.std.specs.Prelude.{◌≡◌, ◌<◌, ◌≤◌, ◌⊎◌, ℕ, Bool, true, false, List, [], ◌∷◌, Option, Some, None, length, set, slice_index_or, vec_len, vec_capacity, ◌+◌, ◌^◌}
use Rattle.campl_machine.specs.Names.{Who}
use Rattle.campl_order.specs.declared.schedule.Schedule.{Schedule}
use Rattle.campl_order.specs.Orders.{Ranked}
use Rattle.campl_order.specs.Boards.{IsBoard, Within, earlier, is_flagged}

-- who waits on an end
abbrev pub waiter : List (Option ℕ) → ℕ → Option ℕ
waiter waiting e = slice_index_or waiting e None

-- the tables of a run fit the names of its processes and services
pub record IsScheduled (names : ℕ → Who) (s : Schedule) : Type 0 where
  pub ranked : Ranked names s.order.ranks.items
  pub board : IsBoard (earlier names) s.board.flags.items s.board.winners.items
  pub within : Within (length s.order.ranks.items) s.board.flags.items s.board.winners.items
  pub room : length s.order.ranks.items ≤ length s.board.flags.items
  pub waiters : (e i : ℕ) → waiter s.waiting.items e ≡ Some i → i < length s.order.ranks.items

-- room for one more process, its flag and number, and the ends of two more channels
pub record HasRoom (s : Schedule) : Type 0 where
  pub rank : vec_len s.order.ranks < vec_capacity s.order.ranks
  pub flag : vec_len s.order.ranks < vec_len s.board.flags
  pub ends : vec_len s.waiting + 4 ≤ vec_capacity s.waiting
  pub few : vec_len s.order.ranks < 2 ^ 31

-- Changes

-- whoever waited on this end is flagged
abbrev pub flags_woken : Option ℕ → List Bool → List Bool
flags_woken None flags = flags
flags_woken (Some i) flags = set flags i true

-- all below this number are flagged
abbrev pub AreFlagged : List Bool → ℕ → Type 0
AreFlagged flags count = (i : ℕ) → i < count → is_flagged flags i ≡ true

-- What the tables keep

abbrev pub IsAmong : List ℕ → ℕ → Type 0
IsAmong [] e = ⊥
IsAmong (x ∷ xs) e = (x ≡ e) ⊎ IsAmong xs e

-- of those below `count`, one that isn't flagged stands still, unless it waits on an end where something has changed;
-- and each end on which it waits knows it
pub record Keeps (still : ℕ → Type 0) (waits : ℕ → ℕ → Type 0) (flags : List Bool) (waiting : List (Option ℕ)) (count : ℕ) (changed : List ℕ) : Type 0 where
  pub stuck : (i : ℕ) → i < count → is_flagged flags i ≡ false → ((e : ℕ) → IsAmong changed e → waits i e → ⊥) → still i
  pub known : (i : ℕ) → i < count → is_flagged flags i ≡ false → (e : ℕ) → waits i e → waiter waiting e ≡ Some i
