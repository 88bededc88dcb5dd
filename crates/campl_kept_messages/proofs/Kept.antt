-- The reductions of services, and those of processes that send or take a message without ends, keep a configuration lawful.
use Rattle.std.proofs.Common.{◌≡◌, ℕ, subst, Some}
use Rattle.campl_tree.specs.Plain.Process as b
use Rattle.campl_tree.specs.Plain.Process.{Body}
use Rattle.campl_tree.specs.Plain.Decl.{Program}
use Rattle.campl_machine.specs.Names.{Path, Process, Service}
use Rattle.campl_machine.specs.Machine.{Does}
use Rattle.campl_types.specs.World.{world_of}
use Rattle.campl_peel.specs.Terms.{Doing}
use Rattle.campl_meaning.specs.States.{Running, State, Runs, Serves}
use Rattle.campl_meaning.specs.Reductions.{Configuration, act_of}
use Rattle.campl_meaning.specs.Kept.{Goes}
use Rattle.campl_meaning.specs.Lawful.{Lawful}
use Rattle.campl_meaning.proofs.Steps.{goes-does}
use Rattle.campl_kept_messages.specs.Passing.{PassesLetter}
use Rattle.campl_kept_messages.proofs.Processes.{put-lawful, get-lawful, hput-lawful, hcase-lawful}
use Rattle.campl_kept_messages.proofs.Services.{service-lawful}

pub services-kept : (source : Program) (c d : Configuration) (n : ℕ) → Lawful source c → Goes (world_of source) c (Service n) d → Lawful source d
services-kept source c d n l g = let (s, i, is, does) = goes-does (world_of source) c d (Service n) g in go s i is does
  where
    go : (s : State) (i : ℕ) → c.nodes (Service n) ≡ Some s → Does c (Service n) (act_of (world_of source) (Service n) s i) d → Lawful source d
    go (Serves a) i is does = service-lawful source c l n a is d i does
    go (Runs r) i is does = absurd does

pub letters-kept : (source : Program) (c d : Configuration) (p : Path) (r : Running) (body : Body) → Lawful source c → c.nodes (Process p) ≡ Some (Runs r)
    → r.term ≡ Doing body → PassesLetter body → Goes (world_of source) c (Process p) d → Lawful source d
letters-kept source c d p r body l is term passes g =
    let (s, i, there, does) = goes-does (world_of source) c d (Process p) g in
    let same : s ≡ Runs r = cc (there, is) in
    go body i passes term (subst (λ t. Does c (Process p) (act_of (world_of source) (Process p) t i) d) same does)
  where
    go : (body : Body) (i : ℕ) → PassesLetter body → r.term ≡ Doing body → Does c (Process p) (act_of (world_of source) (Process p) (Runs r) i) d → Lawful source d
    go (b.Then (b.Put at a x) rest) i h term does = put-lawful source c l p r is d i at a x rest term does
    go (b.Then (b.Get at v x) rest) i h term does = get-lawful source c l p r is d i at v x rest term does
    go (b.Then (b.Hput at k x) rest) i h term does = hput-lawful source c l p r is d i at k x rest term does
    go (b.Then (b.Split at x y z) rest) i h term does = absurd h
    go (b.Then (b.Close at x) rest) i h term does = absurd h
    go (b.Halt at x) i h term does = absurd h
    go (b.Hcase at x rows) i h term does = hcase-lawful source c l p r is d i at x rows term does
    go (b.Fork at x y left z right) i h term does = absurd h
    go (b.Plug at links parts) i h term does = absurd h
    go (b.Race at rows) i h term does = absurd h
    go (b.Case at a rows) i h term does = absurd h
    go (b.Identity at x negated y) i h term does = absurd h
    go (b.Call at x args inputs outputs) i h term does = absurd h
