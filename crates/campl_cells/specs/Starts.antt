-- The parts at the start: `run` with the number 0, and behind it a service at the far end of each of its channels.
use Rattle.std.specs.Prelude.{ℕ, zero, suc, ◌+◌, List, [], ◌∷◌, Option, Some, None, if◌then◌else◌, nat_lt, length, slice_get}
use Rattle.campl_tree.specs.declared.service.ServiceName.{ServiceName}
use Rattle.campl_machine.specs.Names.{End, Who, Process, Service}
use Rattle.campl_types.specs.World.{World}
use Rattle.campl_types.specs.Run.{services_of}
use Rattle.campl_service.specs.Scripts.{Lines}
use Rattle.campl_meaning.specs.States as s
use Rattle.campl_meaning.specs.States.{State}
use Rattle.campl_meaning.specs.Start as start
use Rattle.campl_code.specs.Instructions.{Code}
use Rattle.campl_code_bodies.specs.Kept.{Kept}
use Rattle.campl_cells.specs.Parts.{Ends, Life, Ended, Runs, Serves, Proc, Parts, near, far, written}
use Rattle.campl_cells.specs.Steps.{borne}
use Rattle.campl_cells.specs.Stands.{Naming}

-- `run` has the near ends of so many channels
abbrev pub first_ends : (count : ℕ) → Ends
first_ends count n = if nat_lt n count then Some (near n) else None

-- it was there from the start
abbrev pub unborn : Life → Proc
unborn life = record { life = life; parent = 0; born = 0; steps = 0 }

-- `run`, the process with number g of the code, and what it keeps
abbrev pub first_process : World → Code → (g : ℕ) → Kept → Proc
first_process w code g kept = unborn (Runs (record { block = length code.functions + g; ends = first_ends (length (services_of w)); kept = kept }))

-- a service of the machine's start, at the far end of channel n
abbrev pub start_life : (channel : ℕ) → Option State → Life
start_life n None = Ended
start_life n (Some (s.Runs r)) = Ended
start_life n (Some (s.Serves a)) = Serves (far n) a.serving

abbrev pub service_at : (channel : ℕ) → Option (Who × Option State) → Option Proc
service_at n None = None
service_at n (Some x) = Some (unborn (start_life n x.1))

abbrev pub start_process : World → Code → (g : ℕ) → Kept → List Lines → ℕ → Option Proc
start_process w code g kept scripts zero = Some (first_process w code g kept)
start_process w code g kept scripts (suc n) = service_at n (slice_get (start.attending 0 (services_of w) scripts) n)

-- the channels from n on
abbrev pub numbers : ℕ → List ServiceName → List ℕ
numbers n [] = []
numbers n (x ∷ xs) = n ∷ numbers (suc n) xs

abbrev pub start_parts : World → Code → (g : ℕ) → Kept → List Lines → Parts
start_parts w code g kept scripts = record {
  process = start_process w code g kept scripts;
  tip = written (borne (numbers 0 (services_of w))) (λ e. None);
}

-- The machine's names of the numbers

abbrev pub start_who : ℕ → Who
start_who zero = Process []
start_who (suc n) = Service n

-- the ends from those of channel c on
abbrev pub end_from : (channel : ℕ) → ℕ → End
end_from c zero = start.near c
end_from c (suc zero) = start.far c
end_from c (suc (suc e)) = end_from (suc c) e

abbrev pub start_naming : Naming
start_naming = record { who = start_who; end = end_from 0 }
