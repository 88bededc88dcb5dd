-- Every reduction keeps a configuration lawful, and so each that is reached is.
use Rattle.std.proofs.Common.{◌≡◌, ℕ, zero, suc, List, sym, ap, subst, Some, option_map}
use Rattle.campl_tree.specs.Plain.Decl.{Program}
use Rattle.campl_tree.specs.Plain.Process as b
use Rattle.campl_tree.specs.Plain.Process.{Body}
use Rattle.campl_machine.specs.Names.{Path, Who, Process, Service}
use Rattle.campl_machine.specs.Machine.{Does, performs}
use Rattle.campl_machine.specs.Runs.{Run}
use Rattle.campl_machine.proofs.Performs.{of_does}
use Rattle.campl_types.specs.World.{World, world_of}
use Rattle.campl_service.specs.Scripts.{Lines}
use Rattle.campl_peel.specs.Terms.{Term, Doing, Plugging, is_plug}
use Rattle.campl_meaning.specs.States.{Running, State, Runs, Serves}
use Rattle.campl_meaning.specs.Wants.{wants, term_command}
use Rattle.campl_meaning.specs.Reductions.{Configuration, Event, act_of, event_of, reduce}
use Rattle.campl_meaning.specs.Start.{start}
use Rattle.campl_meaning.specs.Kept.{Goes, IsKept}
use Rattle.campl_meaning.specs.Lawful.{IsAccepted, Lawful}
use Rattle.campl_meaning.proofs.Steps.{goes-of}
use Rattle.campl_kept_quiet.specs.Quiet.{Keeps}
use Rattle.campl_kept_quiet.specs.Others.{OthersKeep}
use Rattle.campl_kept_quiet.proofs.Whole.{kept}
use Rattle.campl_kept_messages.specs.Passing.{PassesLetter}
use Rattle.campl_kept_messages.proofs.Kept.{letters-kept, services-kept}
use Rattle.campl_kept_identities.proofs.Identities.{link-kept}
use Rattle.campl_kept_births.proofs.Goes.{peel-goes, split-goes, fork-goes}
use Rattle.campl_laws.specs.Reached.{IsReached, IsMet}

process-goes : (w : World) (c d : Configuration) (p : Path) (r : Running) (i : ℕ) (term : Term) → c.nodes (Process p) ≡ Some (Runs r) → r.term ≡ term
    → Does c (Process p) (term_command w p r i term).act d → Goes w c (Process p) d
process-goes w c d p r i term is t does =
    goes-of w c d (Process p) (Runs r) i is (subst (λ z. Does c (Process p) (term_command w p r i z).act d) (sym t) does)

by-letters : (body : Body) → PassesLetter body → Keeps body
by-letters body passes source c d p r i l is t does = letters-kept source c d p r body l is t passes (process-goes (world_of source) c d p r i (Doing body) is t does)

is-plug : (r : Running) (term : Term) → r.term ≡ term → is_plug term ≡ is_plug r.term
is-plug r term t = ap is_plug (sym t)

others : OthersKeep
others = record {
  put = λ at a x rest. by-letters (b.Then (b.Put at a x) rest) tt;
  get = λ at v x rest. by-letters (b.Then (b.Get at v x) rest) tt;
  hput = λ at k x rest. by-letters (b.Then (b.Hput at k x) rest) tt;
  split = λ at x y z rest source c d p r i l is t does.
      split-goes source c d p r l is (process-goes (world_of source) c d p r i (Doing (b.Then (b.Split at x y z) rest)) is t does) at x y z rest t;
  hcase = λ at x rows. by-letters (b.Hcase at x rows) tt;
  fork = λ at x y left z right source c d p r i l is t does.
      fork-goes source c d p r l is (process-goes (world_of source) c d p r i (Doing (b.Fork at x y left z right)) is t does) at x y left z right t;
  plug = λ at links parts source c d p r i l is t does.
      peel-goes source c d p r l is (process-goes (world_of source) c d p r i (Doing (b.Plug at links parts)) is t does) (ap is_plug t);
  identity = λ at x negated y source c d p r i l is t does.
      link-kept source c l p r at x negated y (record { there = is; term = t }) d (process-goes (world_of source) c d p r i (Doing (b.Identity at x negated y)) is t does);
  plugging = λ source c d p r links parts l is t does.
      peel-goes source c d p r l is (process-goes (world_of source) c d p r 0 (Plugging links parts) is t does) (ap is_plug t);
  service = λ source c d n s l is does. services-kept source c d n l (goes-of (world_of source) c d (Service n) (Serves s) 0 is does);
}

pub all-kept : (source : Program) → IsKept source
all-kept source = kept others source

run-lawful : (source : Program) (n : ℕ) (c d : Configuration) → Lawful source c → Run (Goes (world_of source)) n c d → Lawful source d
run-lawful source zero c d l e = subst (Lawful source) e l
run-lawful source (suc n) c d l (who, m, g, run) = run-lawful source n m d ((all-kept source).goes_on c m who l g) run

pub reached-lawful : (source : Program) (scripts : List Lines) (c : Configuration) → IsAccepted source → IsReached source scripts c → Lawful source c
reached-lawful source scripts c accepted (n, run) = run-lawful source n (start (world_of source) scripts) c ((all-kept source).begins scripts accepted) run

pub met-lawful : (source : Program) (c : Configuration) → IsMet source c → Lawful source c
met-lawful source c (accepted, (scripts, reached)) = reached-lawful source scripts c accepted reached
