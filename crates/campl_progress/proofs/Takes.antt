-- In a lawful configuration each node's next step is one of its kind, and a receipt that finds a first message takes it.
use Rattle.std.proofs.Common.{◌≡◌, ◌≢◌, ℕ, Bool, List, ◌∷◌, refl, sym, ap, subst, Option, Some, None, option_map}
use Rattle.campl_tree.specs.Plain.Decl.{Program}
use Rattle.campl_machine.specs.Names.{Path, End, Who, Process, Service}
use Rattle.campl_machine.specs.Machine.{Act, Moves, Looks, Links, Stands, Breaks, performs, looked}
use Rattle.campl_tree.specs.Plain.Process as b
use Rattle.campl_tree.specs.Plain.Process.{Body}
use Rattle.campl_types.specs.Names.{found}
use Rattle.campl_types.specs.World.{World, world_of, process_named}
use Rattle.campl_evaluation.specs.Evaluation.{Answer, Deep, value_of, values_of}
use Rattle.campl_peel.specs.Terms.{Term, Doing, Plugging}
use Rattle.campl_meaning.specs.Bodies.{handed, both_ends}
use Rattle.campl_types.specs.Views.{View}
use Rattle.campl_evaluation.proofs.Declared.{typed-world}
use Rattle.campl_meaning.specs.States.{Message, Running, State, Runs, Serves, Kind, Command}
use Rattle.campl_meaning.specs.Wants.{wants, with_found, with_answer, next_command, term_command}
use Rattle.campl_meaning.specs.Reductions.{Configuration, Event, act_of, event_of, reduce}
use Rattle.campl_meaning.specs.Ends.{NeverActs, IsBrokenAt}
use Rattle.campl_meaning.specs.Views.{Takes, TakesAll}
use Rattle.campl_meaning.specs.Lawful.{Lawful, IsTypedAt, Agree, seen}
use Rattle.campl_progress.specs.Deep.{BodyIsDeep, TermIsDeep, SaysDeep, SaysWrong}
use Rattle.campl_types.proofs.DeclaredOnce.{protocols-are-known, coprotocols-are-known}
use Rattle.campl_progress.proofs.Acts.{IsReceipt, Answers, term-answers, not-wrong-term}
use Rattle.campl_progress.proofs.Serving.{IsIdle, service-answers}
use Rattle.campl_types.proofs.Lowers.{process-typed}

-- when a node may stand, and break
abbrev pub MayStand : Who → State → ℕ → Type 0
MayStand (Process p) (Runs r) i = i ≢ 0
MayStand (Service n) (Serves s) i = IsIdle s
MayStand (Process p) (Serves s) i = ⊥
MayStand (Service n) (Runs r) i = ⊥

abbrev pub MayBreak : World → Who → State → Type 0
MayBreak w (Process p) (Runs r) = SaysDeep w r
MayBreak w (Service n) (Serves s) = ⊥
MayBreak w (Process p) (Serves s) = ⊥
MayBreak w (Service n) (Runs r) = ⊥

-- where the evaluation says Deep, the process breaks

looked-up : {A : Type 0} (kind : Kind) (o : Option A) (f : A → Command) → ((a : A) → (f a).act ≡ Breaks) → (with_found kind o f).act ≡ Breaks
looked-up kind None f h = refl
looked-up kind (Some a) f h = h a

evaluated : {A : Type 0} (r : Running) (kind : Kind) (end : Option End) (o : Answer A) (n : ℕ) (f : A → Command) → o ≡ Deep n → (with_answer r kind end o f).act ≡ Breaks
evaluated r kind end o n f i = rw i refl

deep-body : (w : World) (p : Path) (r : Running) (i : ℕ) (body : Body) → BodyIsDeep w r body → (next_command w p r i body).act ≡ Breaks
deep-body w p r i (b.Then (b.Put at a x) rest) (n, h) = looked-up _ (found x.name r.ends) _ (λ e. evaluated r _ (Some e) (value_of w a r.variables r.spent) n _ h)
deep-body w p r i (b.Case at a rows) (n, h) = evaluated r _ None (value_of w a r.variables r.spent) n _ h
deep-body w p r i (b.Call at x args inputs outputs) (n, h) =
    looked-up _ (process_named w x) _ (λ d. looked-up _ (both_ends (handed d.row.inputs inputs r.ends) (handed d.row.outputs outputs r.ends)) _
    (λ es. evaluated r _ None (values_of w args r.variables r.spent) n _ h))
deep-body w p r i body h = absurd h

deep-term : (w : World) (p : Path) (r : Running) (i : ℕ) (term : Term) → TermIsDeep w r term → (term_command w p r i term).act ≡ Breaks
deep-term w p r i (Doing body) h = deep-body w p r i body h
deep-term w p r i (Plugging links parts) h = absurd h

pub deep-is-broken : (w : World) (c : Configuration) (p : Path) (r : Running) → c.nodes (Process p) ≡ Some (Runs r) → SaysDeep w r → IsBrokenAt w c p
deep-is-broken w c p r is h = (Runs r, is, subst (NeverActs c (Process p)) (sym (deep-term w p r 0 r.term h)) tt)

-- what can be performed is a reduction
pub may : (w : World) (c d : Configuration) (who : Who) (s : State) (i : ℕ) → c.nodes who ≡ Some s → performs c who (act_of w who s i) ≡ Some d → (next : Event × Configuration) × (reduce w c who i ≡ Some next)
may w c d who s i is h = ((event_of c (wants w who s i), d), rw is (ap (option_map {U = Event × Configuration} (λ (e : Configuration). (event_of c (wants w who s i), e))) h))

module _ (source : Program) (c : Configuration) (l : Lawful source c) where
  abbrev w : World
  w = world_of source

  pub node-answers : (who : Who) (s : State) (i : ℕ) → c.nodes who ≡ Some s → Answers w c l.channel l.place who (MayStand who s i) (MayBreak w who s) (act_of w who s i)
  node-answers (Process p) (Runs r) i is =
      let t : IsTypedAt w l.channel r = l.typed p r is in
      term-answers w (typed-world source l.accepted.typed) (protocols-are-known source l.accepted.typed.declared) (coprotocols-are-known source l.accepted.typed.declared) (process-typed source l.accepted.typed) c l.channel l.place l.apart p r is t.vars t.bound i r.term t.term
  node-answers (Service n) (Serves s) i is = service-answers source c l.channel l.place l.apart n s is (l.phases n s is)
  node-answers (Process p) (Serves s) i is = absurd (l.apart.placed.kinds (Process p) (Serves s) is)
  node-answers (Service n) (Runs r) i is = absurd (l.apart.placed.kinds (Service n) (Runs r) is)

  -- the first message fits
  first-fits : (x z : End) (m : Message) (ms : List Message) → c.partner x ≡ Some z → c.owed z ≡ m ∷ ms → (next : View) × Takes w (seen l.channel x) m next
  first-fits x z m ms pz oz =
      let a : Agree w c l.channel x z = l.agree x z pz in
      let all : TakesAll w (seen l.channel x) (m ∷ ms) a.left = subst (λ t. TakesAll w (seen l.channel x) t a.left) oz a.mine in
      (all.0, all.1)

  looks : (who : Who) (t : Bool) (x : End) (f : Message → Option State) → IsReceipt w c l.channel l.place who x f → (z : End) (m : Message) (ms : List Message) → c.partner x ≡ Some z → c.owed z ≡ m ∷ ms →
      (d : Configuration) × (performs c who (Looks t x f) ≡ Some d)
  looks who t x f k z m ms pz oz =
      let (next, fits) = first-fits x z m ms pz oz in
      let (s, e) = k.takes m next fits in
      (looked c who t z s, rw (pz, oz, e) refl)

  -- a receipt, a race's branch or a service that finds a first message takes it
  pub takes-first : (who : Who) (s : State) (i : ℕ) (t : Bool) (x z : End) (f : Message → Option State) (m : Message) (ms : List Message) → c.nodes who ≡ Some s → act_of w who s i ≡ Looks t x f → c.partner x ≡ Some z → c.owed z ≡ m ∷ ms →
      (next : Event × Configuration) × (reduce w c who i ≡ Some next)
  takes-first who s i t x z f m ms is act pz oz =
      let k : IsReceipt w c l.channel l.place who x f = subst (Answers w c l.channel l.place who (MayStand who s i) (MayBreak w who s)) act (node-answers who s i is) in
      let (d, h) = looks who t x f k z m ms pz oz in
      may w c d who s i is (subst (λ A. performs c who A ≡ Some d) (sym act) h)

  -- no evaluation says Wrong
  pub never-wrong : (p : Path) (r : Running) → c.nodes (Process p) ≡ Some (Runs r) → SaysWrong w r → ⊥
  never-wrong p r is h =
      let t : IsTypedAt w l.channel r = l.typed p r is in
      not-wrong-term w (typed-world source l.accepted.typed) (protocols-are-known source l.accepted.typed.declared) (coprotocols-are-known source l.accepted.typed.declared) (process-typed source l.accepted.typed) c l.channel l.place l.apart p r is t.vars t.bound r.term t.term h

  -- a process whose act can never happen is one whose evaluation says Deep
  never-deep : (who : Who) (stands deep : Type 0) (A : Act State Message) → Answers w c l.channel l.place who stands deep A → NeverActs c who A → deep
  never-deep who stands deep Breaks h k = h
  never-deep who stands deep (Links x y) (d, h) k = absurd (cc (h, k))
  never-deep who stands deep (Moves m) h k = absurd k
  never-deep who stands deep (Looks t x f) h k = absurd k
  never-deep who stands deep Stands h k = absurd k

  pub breaks-deep : (p : Path) (r : Running) (i : ℕ) → c.nodes (Process p) ≡ Some (Runs r) → NeverActs c (Process p) (act_of w (Process p) (Runs r) i) → SaysDeep w r
  breaks-deep p r i is h = never-deep (Process p) (i ≢ 0) (SaysDeep w r) (act_of w (Process p) (Runs r) i) (node-answers (Process p) (Runs r) i is) h

  pub broken-is-deep : (p : Path) → IsBrokenAt w c p → (r : Running) × (c.nodes (Process p) ≡ Some (Runs r)) × SaysDeep w r
  broken-is-deep p (Runs r, is, h) = (r, is, breaks-deep p r 0 is h)
  broken-is-deep p (Serves s, is, h) = absurd (l.apart.placed.kinds (Process p) (Serves s) is)
