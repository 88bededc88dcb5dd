-- A step that looked at a message, and an identity.
use Rattle.std.proofs.Common.{◌≡◌, ◌≢◌, ℕ, suc, Bool, true, false, List, [], ◌∷◌, Option, Some, None, IsSome, if◌then◌else◌, IfSome}
use Rattle.campl_machine.specs.Names.{End, same_end, same_who}
use Rattle.campl_machine.specs.Machine as machine
use Rattle.campl_machine.specs.Machine.{update, rewired, joined, taken}
use Rattle.campl_meaning.specs.States.{Message, Kind}
use Rattle.campl_code.specs.Instructions.{Code}
use Rattle.campl_code_bodies.specs.Commands.{CodeState}
use Rattle.campl_code_bodies.specs.Running.{CodeConfiguration}
use Rattle.campl_cells.specs.Parts.{Mail, Life, Proc, Tip, Parts, put, or_bare, written}
use Rattle.campl_cells.specs.Wants.{Drawn, Next, Gone}
use Rattle.campl_cells.specs.Steps.{looked, linked, goes_on, after, IsLifeOf, IsChildOf, peopled, tips_joined}
use Rattle.campl_cells.specs.Stands.{Naming, StandsFor, IsFresh, IsNode, LifeWithin, IsEnd, IsEntryOf, MailWithin}
use Rattle.campl_cells.proofs.Puts.{is-there, put-keeps, written-keeps}
use Rattle.campl_cells.proofs.Tips.{TipsStand, mail-wider, peer-there}
use Rattle.campl_cells.proofs.Receiving.{taking, taking-keeps, taking-before}
use Rattle.campl_cells.proofs.Linking.{linking, linking-keeps, linking-before}
use Rattle.campl_cells.proofs.Nodes.{borne-grown, on-grown, on-births}
use Rattle.campl_cells.proofs.Together.{tips-of, together}
use Rattle.campl_cells.proofs.Alike.{GoesAs, gone-as}
use Rattle.campl_cells.proofs.Moving.{node-on, held-on, life-wider}

module _ (code : Code) (n : Naming) (m : Parts) (c : CodeConfiguration) (z : StandsFor code n m c) (d : Drawn) (fresh : IsFresh d m)
    (p : ℕ) (q : Proc) (there : m.process p ≡ Some q) where
  -- the process goes on, and the same ends are in use
  goes-with : (tip2 : ℕ → Option Tip) (partner : End → Option End) (owed : End → List Message) → TipsStand n.end tip2 partner owed →
      ((k : ℕ) → IsSome (m.tip k) → IsSome (tip2 k)) → ((k : ℕ) → IsSome (tip2 k) → IsSome (m.tip k)) →
      (life : Life) (o : Option CodeState) → IsNode code n.end (n.who p) (suc q.steps) life o × LifeWithin (IsEnd m.tip) life →
      StandsFor code n (record { process = put p (Some (goes_on q life)) m.process; tip = tip2 }) (record { nodes = update same_who ((n.who p, o) ∷ []) c.nodes; partner = partner; owed = owed })
  goes-with tip2 partner owed tips keeps before life o is =
      together code n (put p (Some (goes_on q life)) m.process) tip2 (update same_who ((n.who p, o) ∷ []) c.nodes) partner owed
      (node-on code n m c z d fresh p q there life o is.0) tips
      (on-births n m.process p q there life z.named.births)
      (λ e h. borne-grown n m.process (put p (Some (goes_on q life)) m.process) (on-grown n m.process p q there life) (n.end e) (z.named.bearers e (before e h)))
      (held-on code n m c z d fresh p q there (IsEnd tip2) life keeps (life-wider (IsEnd m.tip) (IsEnd tip2) keeps life is.1))

  pub looks-stand : (takes : Bool) (kind : Kind) (e f : ℕ) → (or_bare (m.tip e)).peer ≡ Some f → (mail : Mail) (rest : List Mail) → (or_bare (m.tip e)).inbox ≡ mail ∷ rest →
      (next : Next) (s : CodeState) → GoesAs code n (IsEnd m.tip) (n.who p) (suc q.steps) next (Some s) →
      (life : Life) (child : Option Life) → IsLifeOf code next life → IsChildOf code None child →
      StandsFor code n (after d m p q (looked p kind takes e (Some f) mail rest next) life child) (machine.looked c (n.who p) takes (n.end f) s)
  looks-stand true kind e f pf mail rest il next s goes life None is born =
      goes-with (put e (Some (record { peer = Some f; inbox = rest })) m.tip) c.partner (taken true (n.end f) c.owed)
      (taking n.end m.tip c.partner c.owed (tips-of code n m c z) e f pf mail rest il)
      (taking-keeps n.end m.tip c.partner c.owed (tips-of code n m c z) e f pf mail rest il)
      (taking-before n.end m.tip c.partner c.owed (tips-of code n m c z) e f pf mail rest il)
      life (Some s) (goes life is)
  looks-stand false kind e f pf mail rest il next s goes life None is born =
      goes-with m.tip c.partner c.owed (tips-of code n m c z) (λ k h. h) (λ k h. h) life (Some s) (goes life is)
  looks-stand takes kind e f pf mail rest il next s goes life (Some x) is born = absurd born

  pub links-stand : (x y x2 y2 : ℕ) → (or_bare (m.tip x)).peer ≡ Some x2 → (or_bare (m.tip y)).peer ≡ Some y2 → x ≢ y → x2 ≢ y →
      (life : Life) (child : Option Life) → IsLifeOf code Gone life → IsChildOf code None child →
      StandsFor code n (after d m p q (linked m.tip p x y x2 y2) life child) (machine.linked c (n.who p) (n.end x) (n.end y) (n.end x2) (n.end y2))
  links-stand x y x2 y2 px py xy x2y life None is born =
      goes-with _ (update same_end (rewired (n.end x) (n.end y) (n.end x2) (n.end y2)) c.partner) (joined (n.end x) (n.end y) (n.end x2) (n.end y2) c.owed)
      (linking n.end m.tip c.partner c.owed (tips-of code n m c z) x y x2 y2 px py xy x2y)
      (linking-keeps n.end m.tip c.partner c.owed (tips-of code n m c z) x y x2 y2 px py xy x2y)
      (linking-before n.end m.tip c.partner c.owed (tips-of code n m c z) x y x2 y2 px py xy x2y)
      life None (gone-as code n (IsEnd m.tip) (n.who p) (suc q.steps) life is)
  links-stand x y x2 y2 px py xy x2y life (Some l) is born = absurd born

  p-there : IsSome (m.process p)
  p-there = is-there (m.process p) q there

  same-ends : (takes : Bool) (e f : ℕ) → (or_bare (m.tip e)).peer ≡ Some f → (rest : List Mail) (k : ℕ) → IsSome (m.tip k) →
      IsSome (written (if takes then (e, record { peer = Some f; inbox = rest }) ∷ [] else []) m.tip k)
  same-ends true e f pf rest k h = put-keeps e (record { peer = Some f; inbox = rest }) m.tip k h
  same-ends false e f pf rest k h = h

  pub looks-entry : (takes : Bool) (kind : Kind) (e f : ℕ) → (or_bare (m.tip e)).peer ≡ Some f → (mail : Mail) (rest : List Mail) → MailWithin (IsEnd m.tip) mail → (next : Next) →
      (life : Life) (child : Option Life) → IsEntryOf (after d m p q (looked p kind takes e (Some f) mail rest next) life child) (looked p kind takes e (Some f) mail rest next).entry
  looks-entry takes kind e f pf mail rest within next life child = record {
    process = written-keeps (peopled d p q life child) m.process p p-there;
    end = same-ends takes e f pf rest e (peer-there (m.tip e) f pf);
    second = tt;
    message = go takes;
    child = tt;
    channel = tt;
    channel2 = tt;
  }
    where
      go : (b : Bool) → IfSome (if b then Some mail else None) (MailWithin (IsEnd (written (if takes then (e, record { peer = Some f; inbox = rest }) ∷ [] else []) m.tip)))
      go true = mail-wider (IsEnd m.tip) (IsEnd (written (if takes then (e, record { peer = Some f; inbox = rest }) ∷ [] else []) m.tip)) (same-ends takes e f pf rest) mail within
      go false = tt

  pub links-entry : (x y x2 y2 : ℕ) → IsSome (m.tip x) → IsSome (m.tip y) → (life : Life) (child : Option Life) →
      IsEntryOf (after d m p q (linked m.tip p x y x2 y2) life child) (linked m.tip p x y x2 y2).entry
  links-entry x y x2 y2 hx hy life child = record {
    process = written-keeps (peopled d p q life child) m.process p p-there;
    end = written-keeps (tips_joined m.tip x y x2 y2) m.tip x hx;
    second = written-keeps (tips_joined m.tip x y x2 y2) m.tip y hy;
    message = tt;
    child = tt;
    channel = tt;
    channel2 = tt;
  }
