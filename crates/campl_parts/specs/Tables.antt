-- The tables of a configuration: processes and ends by number.
use Rattle.std.specs.VecDeque.{deque_len, deque_capacity}
use Rattle.std.specs.Prelude.{◌≡◌, ℕ, ◌+◌, ◌≤◌, ◌<◌, ◌^◌, List, Option, Some, None, option_map, slice_get}
use Rattle.campl_cells.specs.Parts.{Proc, Tip, Parts}
use Rattle.campl_parts.specs.declared.part.ProcPart.{ProcPart}
use Rattle.campl_parts.specs.declared.inbox.EndPart.{EndPart}
use Rattle.campl_parts.specs.Views.{proc_of, tip_of}

abbrev pub procs : List ProcPart → ℕ → Option Proc
procs ps i = option_map proc_of (slice_get ps i)

abbrev pub tips : List EndPart → ℕ → Option Tip
tips es k = option_map tip_of (slice_get es k)

abbrev pub parts_of : List ProcPart → List EndPart → Parts
parts_of ps es = record { process = procs ps; tip = tips es }

-- the end has room for so many more messages
abbrev pub HasRoomFor : List EndPart → ℕ → ℕ → Type 0
HasRoomFor es k n = (e : EndPart) → slice_get es k ≡ Some e → deque_len e.inbox + n ≤ deque_capacity e.inbox

-- so many messages lie at the end
abbrev pub HasMessages : List EndPart → ℕ → ℕ → Type 0
HasMessages es k n = (e : EndPart) → slice_get es k ≡ Some e → deque_len e.inbox ≡ n

-- a process is there, which made few steps
abbrev pub IsThere : Option Proc → Type 0
IsThere None = ⊥
IsThere (Some q) = q.steps < 2 ^ 62
