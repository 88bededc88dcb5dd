-- A process or service that goes on: what it holds behind a step is what it held, but that a service may close.
use Rattle.std.proofs.Common.{◌≡◌, ◌≢◌, ◌≤◌, Bool, true, false, List, refl, sym, ap, subst, ◌∙◌, Some, IsTrue, true≢false}
use Rattle.campl_tree.specs.Plain.Decl.{Program}
use Rattle.campl_machine.specs.Names.{End, Who, Process, Service}
use Rattle.campl_types.specs.Names.{Name, found, are_distinct}
use Rattle.campl_types.specs.Held.{Channel}
use Rattle.campl_service.specs.declared.phase.Phase.{Phase}
use Rattle.campl_service.specs.declared.phase.Phase.TheVariants as phase
use Rattle.campl_meaning.specs.States.{Message, Running, Attending, State, Runs, Serves}
use Rattle.campl_meaning.specs.Reductions.{Configuration}
use Rattle.campl_meaning.specs.Apart.{At, IsJoined, IsOfKind, end_names}
use Rattle.campl_meaning.specs.Lawful.{Lawful}
use Rattle.campl_meaning.proofs.Phases.{is_open, open-kept}
use Rattle.campl_frame.specs.Frame.{Holds}
use Rattle.campl_frame.proofs.Alone.{alone}

-- it holds the same ends, or serves the same end and wasn't closed
abbrev pub Continues : State → State → Type 0
Continues (Runs r) (Runs t) = (t.ends ≡ r.ends) × (r.steps ≤ t.steps)
Continues (Serves a) (Serves b) = (b.end ≡ a.end) × (a.serving.phase ≢ phase.Closed)
Continues (Runs r) (Serves b) = ⊥
Continues (Serves a) (Runs t) = ⊥

-- whether its ends stay with it
abbrev pub keeps_ends : State → Bool
keeps_ends (Runs r) = true
keeps_ends (Serves a) = is_open a.serving.phase

-- c after the node who went on as s2, with this owed
abbrev pub gone_on : Configuration → Who → State → (End → List Message) → Configuration
gone_on c who s2 owed2 = record { nodes = alone c.nodes who (Some s2); partner = c.partner; owed = owed2 }

kept-open : (ph : Phase) → is_open ph ≡ true → ph ≢ phase.Closed
kept-open ph o k = true≢false (sym o ∙ ap is_open k)

pub of-kind : (who : Who) (s t : State) → Continues s t → IsOfKind who s → IsOfKind who t
of-kind (Process p) (Runs r) (Runs t) h k = tt
of-kind (Process p) (Runs r) (Serves t) h k = h
of-kind (Process p) (Serves r) t h k = absurd k
of-kind (Service n) (Serves r) (Serves t) h k = tt
of-kind (Service n) (Serves r) (Runs t) h k = h
of-kind (Service n) (Runs r) t h k = absurd k

pub went-on : (s : State) (t : Running) → Continues s (Runs t) → (o : Running) × (s ≡ Runs o) × (o.steps ≤ t.steps)
went-on (Runs o) t h = (o, refl, h.1)
went-on (Serves a) t h = absurd h

module _ (source : Program) (c : Configuration) (l : Lawful source c) where
  -- what it holds it held
  pub held-before : (who : Who) (s t : State) (e : End) → IsOfKind who s → c.nodes who ≡ Some s → Continues s t → Holds t e → (l.place e ≡ At who) × IsJoined c e × (keeps_ends t ≡ true)
  held-before (Process p) (Runs r) (Runs t) e k is (es, st) (x, f) =
      let (at, j) = l.apart.placed.held p e (r, x, is, subst (λ z. found x z ≡ Some e) es f) in (at, j, refl)
  held-before (Service n) (Serves a) (Serves b) e k is (es, busy) (f, busy2) =
      let (at, j) = l.apart.placed.served n e (a, is, sym es ∙ f, busy) in (at, j, open-kept b.serving.phase busy2)
  held-before (Process p) (Runs r) (Serves b) e k is h o = absurd h
  held-before (Service n) (Serves a) (Runs t) e k is h o = absurd h
  held-before (Process p) (Serves a) t e k is h o = absurd k
  held-before (Service n) (Runs r) t e k is h o = absurd k

  -- and what it held it holds, if it keeps its ends
  pub held-after : (who : Who) (s t : State) (e : End) → IsOfKind who s → c.nodes who ≡ Some s → Continues s t → keeps_ends t ≡ true → (l.place e ≡ At who) × IsJoined c e → Holds t e
  held-after (Process p) (Runs r) (Runs t) e k is (es, st) o (at, j) =
      let (u, x, i, f) = l.apart.placed.holder p e j at in
      let same : u ≡ r = cc (i, is) in
      (x, subst (λ z. found x z ≡ Some e) (ap (λ (z : Running). z.ends) same ∙ sym es) f)
  held-after (Service n) (Serves a) (Serves b) e k is (es, busy) o (at, j) =
      let (u, i, f, g) = l.apart.placed.server n e j at in
      let same : u ≡ a = cc (i, is) in
      (es ∙ (ap (λ (z : Attending). z.end) (sym same) ∙ f), kept-open b.serving.phase o)
  held-after (Process p) (Runs r) (Serves b) e k is h o at = absurd h
  held-after (Service n) (Serves a) (Runs t) e k is h o at = absurd h
  held-after (Process p) (Serves a) t e k is h o at = absurd k
  held-after (Service n) (Runs r) t e k is h o at = absurd k

  -- else it had one end
  pub one-end : (who : Who) (s t : State) (e f : End) → IsOfKind who s → c.nodes who ≡ Some s → Continues s t → keeps_ends t ≡ false → (l.place e ≡ At who) × IsJoined c e → (l.place f ≡ At who) × IsJoined c f → e ≡ f
  one-end (Service n) (Serves a) (Serves b) e f k is h o (at, j) (at2, j2) =
      let (u, i, g, x) = l.apart.placed.server n e j at in
      let (v, i2, g2, x2) = l.apart.placed.server n f j2 at2 in
      let same : u ≡ v = cc (i, i2) in
      sym g ∙ (ap (λ (z : Attending). z.end) same ∙ g2)
  one-end (Process p) (Runs r) (Runs t) e f k is h o at at2 = absurd (true≢false o)
  one-end (Process p) (Runs r) (Serves b) e f k is h o at at2 = absurd h
  one-end (Service n) (Serves a) (Runs t) e f k is h o at at2 = absurd h
  one-end (Process p) (Serves a) t e f k is h o at at2 = absurd k
  one-end (Service n) (Runs r) t e f k is h o at at2 = absurd k

  -- a service's end stood with it
  pub end-stood : (who : Who) (s : State) (b : Attending) → IsOfKind who s → c.nodes who ≡ Some s → Continues s (Serves b) → (l.place b.end ≡ At who) × IsJoined c b.end
  end-stood (Service n) (Serves a) b k is (es, busy) = l.apart.placed.served n b.end (a, is, sym es, busy)
  end-stood who (Runs r) b k is h = absurd h
  end-stood (Process p) (Serves a) b k is h = absurd k

  -- a process's names and ends differ, and its ends have types
  pub own-names : (who : Who) (s : State) (t : Running) → IsOfKind who s → c.nodes who ≡ Some s → Continues s (Runs t) → IsTrue (are_distinct (end_names t.ends))
  own-names (Process p) (Runs r) t k is (es, st) = subst (λ z. IsTrue (are_distinct (end_names z))) (sym es) (l.apart.placed.names p r is)
  own-names who (Serves a) t k is h = absurd h
  own-names (Service n) (Runs r) t k is h = absurd k

  pub own-once : (who : Who) (s : State) (t : Running) (x y : Name) (e : End) → IsOfKind who s → c.nodes who ≡ Some s → Continues s (Runs t) → found x t.ends ≡ Some e → found y t.ends ≡ Some e → x ≡ y
  own-once (Process p) (Runs r) t x y e k is (es, st) f g = l.apart.placed.ends p r x y e is (subst (λ z. found x z ≡ Some e) es f) (subst (λ z. found y z ≡ Some e) es g)
  own-once who (Serves a) t x y e k is h f g = absurd h
  own-once (Service n) (Runs r) t x y e k is h f g = absurd k

  pub own-type : (who : Who) (s : State) (t : Running) (x : Name) (e : End) → IsOfKind who s → c.nodes who ≡ Some s → Continues s (Runs t) → found x t.ends ≡ Some e → (y : Channel) × (l.channel e ≡ Some y)
  own-type (Process p) (Runs r) t x e k is (es, st) f = l.has_type p e (r, x, is, subst (λ z. found x z ≡ Some e) es f)
  own-type who (Serves a) t x e k is h f = absurd h
  own-type (Service n) (Runs r) t x e k is h f = absurd k
