-- What stands, taken apart and put together.
use Rattle.std.proofs.Common.{◌≡◌, ℕ, List, [], Option, Some, None, IsSome, IfSome, map, option_map, refl}
use Rattle.std.specs.List.{AllByRecursion}
use Rattle.campl_machine.specs.Names.{End, Who}
use Rattle.campl_meaning.specs.States.{Message}
use Rattle.campl_code.specs.Instructions.{Code}
use Rattle.campl_code_bodies.specs.Commands.{CodeState}
use Rattle.campl_code_bodies.specs.Running.{CodeConfiguration}
use Rattle.campl_cells.specs.Parts.{Proc, Tip, Parts, or_bare, or_else}
use Rattle.campl_cells.specs.Stands.{Naming, StandsFor, LifeWithin, MailWithin, IsEnd, named_mail}
use Rattle.campl_cells.proofs.Tips.{TipsStand}
use Rattle.campl_cells.proofs.Nodes.{NodesStand, Births, Bearers}

at-bare : (P : Tip → Type 0) (o : Option Tip) → IfSome o P → IsSome o → P (or_bare o)
at-bare P None h s = absurd (cc s)
at-bare P (Some t) h s = h

from-bare : (P : Tip → Type 0) (o : Option Tip) → (IsSome o → P (or_bare o)) → IfSome o P
from-bare P None h = tt
from-bare P (Some t) h = h refl

all-bare : (Q : (xs : List _) → Type 0) (o : Option Tip) → Q [] → IfSome o (λ t. Q t.inbox) → Q (or_bare o).inbox
all-bare Q None e h = e
all-bare Q (Some t) e h = h

-- each end that a process holds is there
abbrev pub Holding : (ℕ → Option Proc) → (ℕ → Option Tip) → Type 0
Holding process tip = (i : ℕ) → IfSome (process i) (λ q. LifeWithin (IsEnd tip) q.life)

module _ (code : Code) (n : Naming) (m : Parts) (c : CodeConfiguration) (z : StandsFor code n m c) where
  pub tips-of : TipsStand n.end m.tip c.partner c.owed
  tips-of = record {
    partner_is = λ e h. at-bare (λ t. c.partner (n.end e) ≡ option_map n.end t.peer) (m.tip e) (z.shows.partner e) h;
    owed_is = λ e h. at-bare (λ t. c.owed (n.end (or_else t.peer e)) ≡ map (named_mail n.end) t.inbox) (m.tip e) (z.shows.owed e) h;
    no_end = z.shows.no_end;
    one = z.named.ends;
    peers = z.wired.peers;
    carried = λ e. all-bare (AllByRecursion (MailWithin (IsEnd m.tip))) (m.tip e) tt (z.wired.carried e);
  }

  pub nodes-of : NodesStand code n m.process c.nodes
  nodes-of = record { is = z.shows.process; no_node = z.shows.no_node; one = z.named.processes }

pub together : (code : Code) (n : Naming) (process : ℕ → Option Proc) (tip : ℕ → Option Tip) (nodes : Who → Option CodeState) (partner : End → Option End) (owed : End → List Message) →
    NodesStand code n process nodes → TipsStand n.end tip partner owed → Births n process → Bearers n process tip → Holding process tip →
    StandsFor code n (record { process = process; tip = tip }) (record { nodes = nodes; partner = partner; owed = owed })
together code n process tip nodes partner owed a b births bearers held = record {
  shows = record {
    process = a.is;
    partner = λ e. from-bare (λ t. partner (n.end e) ≡ option_map n.end t.peer) (tip e) (b.partner_is e);
    owed = λ e. from-bare (λ t. owed (n.end (or_else t.peer e)) ≡ map (named_mail n.end) t.inbox) (tip e) (b.owed_is e);
    no_node = a.no_node;
    no_end = b.no_end;
  };
  named = record { births = births; bearers = bearers; processes = a.one; ends = b.one };
  wired = record {
    peers = b.peers;
    held = held;
    carried = λ e. from-bare (λ t. AllByRecursion (MailWithin (IsEnd tip)) t.inbox) (tip e) (λ h. b.carried e);
  };
}
