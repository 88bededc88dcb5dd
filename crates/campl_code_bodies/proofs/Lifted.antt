-- Alike commands do alike to configurations that stand for one another.
use Rattle.std.proofs.Common.{◌≡◌, ◌∙◌, refl, sym, ap, subst, inl, inr, ℕ, Bool, true, false, List, [], ◌∷◌, ◌++◌, Option, Some, None, if◌then◌else◌, map}
use Rattle.std.specs.Prelude.{◌&&◌, option_map}
use Rattle.campl_machine.specs.Names.{End, Who, Process, Service, same_end, same_who}
use Rattle.campl_machine.specs.Machine.{Act, Moves, Looks, Links, Stands, Breaks, update, both_ways, alive, sent, rest_of, joined, rewired, linked, at, goes, looks_at, links_at, performs}
use Rattle.campl_types.specs.World.{World}
use Rattle.campl_service.specs.declared.phase.Want.{Want}
use Rattle.campl_service.specs.declared.phase.Want.TheVariants as want
use Rattle.campl_service.specs.Services as services
use Rattle.campl_meaning.specs.States.{Message, State, Runs, Serves, Attending, Command}
use Rattle.campl_meaning.specs.Wants as t
use Rattle.campl_meaning.specs.Reductions as r
use Rattle.campl_meaning.specs.Reductions.{Configuration, Event}
use Rattle.campl_code.specs.Instructions.{Code}
use Rattle.campl_code_bodies.specs.Bodies.{StandsFor}
use Rattle.campl_code_bodies.specs.Commands.{CodeState, RunsCode, Beside, CodeCommand}
use Rattle.campl_code_bodies.specs.Alike.{StandsState, OptionAlike, ChildrenAlike, ActsAlike, IsBreak, CommandsAlike}
use Rattle.campl_code_bodies.specs.Running.{CodeConfiguration, beside, beside_children, act_beside, command_beside, wants, IsEnough, oldest, message_of, children_of, channels_of, event_of, reduce_command, reduce_state, reduce_code, Stand, ReduceAlike}
use Rattle.campl_code_bodies.proofs.Doing.{wants-alike}

module _ (w : World) (code : Code) where
  abbrev R : CodeState → State → Type 0
  R = StandsState w code

  abbrev pub NodesAlike : List (Who × Option CodeState) → List (Who × Option State) → Type 0
  NodesAlike [] [] = Unit {0}
  NodesAlike (u ∷ us) (v ∷ vs) = (u.0 ≡ v.0) × OptionAlike R u.1 v.1 × NodesAlike us vs
  NodesAlike [] (v ∷ vs) = ⊥
  NodesAlike (u ∷ us) [] = ⊥

  pub update-alike : (us : List (Who × Option CodeState)) (vs : List (Who × Option State)) (f : Who → Option CodeState) (g : Who → Option State) → NodesAlike us vs → ((who : Who) → OptionAlike R (f who) (g who)) → (who : Who) → OptionAlike R (update same_who us f who) (update same_who vs g who)
  update-alike [] [] f g h i who = i who
  update-alike [] (v ∷ vs) f g h i who = absurd h
  update-alike (u ∷ us) [] f g h i who = absurd h
  update-alike (u ∷ us) (v ∷ vs) f g h i who = go (same_who u.0 who) (same_who v.0 who) (ap (λ x. same_who x who) h.0) (update-alike us vs f g h.2 i who)
    where
      go : (b d : Bool) → b ≡ d → OptionAlike R (update same_who us f who) (update same_who vs g who) → OptionAlike R (if b then u.1 else update same_who us f who) (if d then v.1 else update same_who vs g who)
      go true true e later = h.1
      go false false e later = later
      go true false e later = absurd (cc e)
      go false true e later = absurd (cc e)

  alive-alike : (cs : List (Who × CodeState)) (ds : List (Who × State)) → ChildrenAlike R cs ds → NodesAlike (alive cs) (alive ds)
  alive-alike [] [] h = tt
  alive-alike [] (d ∷ ds) h = absurd h
  alive-alike (c ∷ cs) [] h = absurd h
  alive-alike (c ∷ cs) (d ∷ ds) h = (h.0, h.1, alive-alike cs ds h.2)

  children-same : (cs : List (Who × CodeState)) (ds : List (Who × State)) → ChildrenAlike R cs ds → map (λ (c : Who × CodeState). c.0) cs ≡ map (λ (d : Who × State). d.0) ds
  children-same [] [] h = refl
  children-same [] (d ∷ ds) h = absurd h
  children-same (c ∷ cs) [] h = absurd h
  children-same (c ∷ cs) (d ∷ ds) h = let e = children-same cs ds h.2 in let first = h.0 in λ i. first i ∷ e i

  -- what is kept under ends
  update-same : {V : Type 0} (us vs : List (End × V)) (f g : End → V) → us ≡ vs → ((e : End) → f e ≡ g e) → (e : End) → update same_end us f e ≡ update same_end vs g e
  update-same us vs f g h i e = ap (λ l. update same_end l f e) h ∙ go vs
    where
      go : (vs : List (End × _)) → update same_end vs f e ≡ update same_end vs g e
      go [] = i e
      go (v ∷ vs) = ap (λ x. if same_end v.0 e then v.1 else x) (go vs)

  sent-same : (o p : Option (End × Message)) (f g : End → List Message) → o ≡ p → ((e : End) → f e ≡ g e) → (e : End) → sent o f e ≡ sent p g e
  sent-same o p f g h i e = ap (λ x. sent x f e) h ∙ go p
    where
      go : (p : Option (End × Message)) → sent p f e ≡ sent p g e
      go None = i e
      go (Some x) = ap (λ (l : List Message). if same_end x.0 e then l ++ (x.1 ∷ []) else l) (i e)

  joined-same : (x y x2 y2 : End) (f g : End → List Message) → ((e : End) → f e ≡ g e) → (e : End) → joined x y x2 y2 f e ≡ joined x y x2 y2 g e
  joined-same x y x2 y2 f g i e =
      let a = i x in let b = i y in let c = i x2 in let d = i y2 in
      update-same ((x, []) ∷ (y, []) ∷ (y2, f x ++ f y2) ∷ (x2, f y ++ f x2) ∷ []) ((x, []) ∷ (y, []) ∷ (y2, g x ++ g y2) ∷ (x2, g y ++ g x2) ∷ []) f g
      (λ n. (x, []) ∷ (y, []) ∷ (y2, a n ++ d n) ∷ (x2, b n ++ c n) ∷ []) i e

  abbrev PerformAlike : Option CodeConfiguration → Option Configuration → Type 0
  PerformAlike None None = Unit {0}
  PerformAlike (Some c) (Some d) = Stand w code c d
  PerformAlike None (Some d) = ⊥
  PerformAlike (Some c) None = ⊥

  looks-alike : (c : CodeConfiguration) (d : Configuration) (who : Who) (takes : Bool) (z : End) (f : Message → Option CodeState) (g : Message → Option State) → Stand w code c d → ((m : Message) → OptionAlike R (f m) (g m)) → (l : List Message) → PerformAlike (looks_at c who takes f z l) (looks_at d who takes g z l)
  looks-alike c d who takes z f g s h [] = tt
  looks-alike c d who takes z f g s h (m ∷ ms) = go (f m) (g m) (h m)
    where
      go : (o : Option CodeState) (p : Option State) → OptionAlike R o p → PerformAlike (goes c who takes z o) (goes d who takes z p)
      go None None i = tt
      go None (Some t) i = absurd i
      go (Some s') None i = absurd i
      go (Some s') (Some t) i = record {
        nodes = update-alike ((who, Some s') ∷ []) ((who, Some t) ∷ []) c.nodes d.nodes (refl, i, tt) s.nodes;
        partner = s.partner;
        owed = λ e. ap (λ (l : List Message). if takes && same_end z e then rest_of l else l) (s.owed e);
      }

  links-alike : (c : CodeConfiguration) (d : Configuration) (who : Who) (x y : End) → Stand w code c d → (o p : Option End) → PerformAlike (links_at c who x y o p) (links_at d who x y o p)
  links-alike c d who x y s None p = tt
  links-alike c d who x y s (Some x2) None = tt
  links-alike c d who x y s (Some x2) (Some y2) = go (same_end x y) (same_end x2 y)
    where
      go : (a b : Bool) → PerformAlike (if a then None else if b then None else Some (linked c who x y x2 y2)) (if a then None else if b then None else Some (linked d who x y x2 y2))
      go true b = tt
      go false true = tt
      go false false = record {
        nodes = update-alike ((who, None) ∷ []) ((who, None) ∷ []) c.nodes d.nodes (refl, tt, tt) s.nodes;
        partner = update-same (rewired x y x2 y2) (rewired x y x2 y2) c.partner d.partner refl s.partner;
        owed = joined-same x y x2 y2 c.owed d.owed s.owed;
      }

  performs-alike : (c : CodeConfiguration) (d : Configuration) (who : Who) (a : Act CodeState Message) (b : Act State Message) → Stand w code c d → ActsAlike R a b → PerformAlike (performs c who a) (performs d who b)
  performs-alike c d who (Moves m) (Moves n) s h = record {
    nodes = update-alike ((who, m.next) ∷ alive m.children) ((who, n.next) ∷ alive n.children) c.nodes d.nodes (refl, h.3, alive-alike m.children n.children h.2) s.nodes;
    partner = update-same (both_ways m.channels) (both_ways n.channels) c.partner d.partner (ap both_ways h.1) s.partner;
    owed = sent-same m.send n.send c.owed d.owed h.0 s.owed;
  }
  performs-alike c d who (Looks takes x f) (Looks takes2 y g) s h =
      subst (λ b. PerformAlike (performs c who (Looks takes x f)) (performs d who (Looks b y g))) h.0
      (subst (λ y. PerformAlike (performs c who (Looks takes x f)) (performs d who (Looks takes y g))) h.1
      (subst (λ o. PerformAlike (at (c.partner x) None (λ z. looks_at c who takes f z (c.owed z))) (at o None (λ z. looks_at d who takes g z (d.owed z)))) (s.partner x) (by (c.partner x))))
    where
      by : (o : Option End) → PerformAlike (at o None (λ z. looks_at c who takes f z (c.owed z))) (at o None (λ z. looks_at d who takes g z (d.owed z)))
      by None = tt
      by (Some z) = subst (λ l. PerformAlike (looks_at c who takes f z (c.owed z)) (looks_at d who takes g z l)) (s.owed z) (looks-alike c d who takes z f g s h.2 (c.owed z))
  performs-alike c d who (Links x y) (Links x2 y2) s h =
      subst (λ x2. PerformAlike (performs c who (Links x y)) (performs d who (Links x2 y2))) h.0
      (subst (λ y2. PerformAlike (performs c who (Links x y)) (performs d who (Links x y2))) h.1
      (subst (λ o. PerformAlike (links_at c who x y (c.partner x) (c.partner y)) (links_at d who x y o (d.partner y))) (s.partner x)
      (subst (λ o. PerformAlike (links_at c who x y (c.partner x) (c.partner y)) (links_at d who x y (c.partner x) o)) (s.partner y) (links-alike c d who x y s (c.partner x) (c.partner y)))))
  performs-alike c d who Stands Stands s h = tt
  performs-alike c d who Breaks Breaks s h = tt
  performs-alike c d who a b s h = absurd h

  -- Events

  oldest-same : (c : CodeConfiguration) (d : Configuration) → Stand w code c d → (o p : Option End) → o ≡ p → oldest c o ≡ r.oldest d p
  oldest-same c d s o p h = ap (oldest c) h ∙ go p
    where
      go : (p : Option End) → oldest c p ≡ r.oldest d p
      go None = refl
      go (Some z) = by (c.owed z) (d.owed z) (s.owed z)
        where
          by : (l m : List Message) → l ≡ m → Rattle.campl_code_bodies.specs.Running.oldest_in l ≡ Rattle.campl_code_bodies.specs.Running.oldest_in m
          by l m h = ap Rattle.campl_code_bodies.specs.Running.oldest_in h

  message-same : (c : CodeConfiguration) (d : Configuration) (a : Act CodeState Message) (b : Act State Message) → Stand w code c d → ActsAlike R a b → message_of c a ≡ r.message_of d b
  message-same c d (Moves m) (Moves n) s h = ap (option_map (λ (x : End × Message). x.1)) h.0
  message-same c d (Looks takes x f) (Looks takes2 y g) s h =
      ap (λ (b : Bool). if b then oldest c (c.partner x) else None) h.0
      ∙ ap (λ o. if takes2 then o else None) (oldest-same c d s (c.partner x) (d.partner y) (s.partner x ∙ ap (λ e. d.partner e) h.1))
  message-same c d (Links x y) (Links x2 y2) s h = refl
  message-same c d Stands Stands s h = refl
  message-same c d Breaks Breaks s h = refl
  message-same c d a b s h = absurd h

  children-alike : (a : Act CodeState Message) (b : Act State Message) → ActsAlike R a b → children_of a ≡ r.children_of b
  children-alike (Moves m) (Moves n) h = children-same m.children n.children h.2
  children-alike (Looks takes x f) (Looks takes2 y g) h = refl
  children-alike (Links x y) (Links x2 y2) h = refl
  children-alike Stands Stands h = refl
  children-alike Breaks Breaks h = refl
  children-alike a b h = absurd h

  channels-alike : (a : Act CodeState Message) (b : Act State Message) → ActsAlike R a b → channels_of a ≡ r.channels_of b
  channels-alike (Moves m) (Moves n) h = h.1
  channels-alike (Looks takes x f) (Looks takes2 y g) h = refl
  channels-alike (Links x y) (Links x2 y2) h = refl
  channels-alike Stands Stands h = refl
  channels-alike Breaks Breaks h = refl
  channels-alike a b h = absurd h

  events-same : (c : CodeConfiguration) (d : Configuration) (x : CodeCommand) (y : Command) → Stand w code c d → ActsAlike R x.act y.act → x.kind ≡ y.kind → x.end ≡ y.end → x.second ≡ y.second → event_of c x ≡ r.event_of d y
  events-same c d x y s h k e f =
      let m = message-same c d x.act y.act s h in
      let cs = children-alike x.act y.act h in
      let ch = channels-alike x.act y.act h in
      λ i. record { kind = k i; end = e i; second = f i; message = m i; children = cs i; channels = ch i }

  break-none : (c : CodeConfiguration) (d : Configuration) (who : Who) (a : Act CodeState Message) (b : Act State Message) (f : CodeConfiguration → Event × CodeConfiguration) (g : Configuration → Event × Configuration) → ActsAlike R a b → IsBreak b
      → ReduceAlike w code (option_map f (performs c who a)) (option_map g (performs d who b))
  break-none c d who Breaks Breaks f g h i = tt
  break-none c d who (Moves m) Breaks f g h i = absurd h
  break-none c d who (Looks x y z) Breaks f g h i = absurd h
  break-none c d who (Links x y) Breaks f g h i = absurd h
  break-none c d who Stands Breaks f g h i = absurd h
  break-none c d who a b f g h i = absurd i

  command-alike : (c : CodeConfiguration) (d : Configuration) (who : Who) (x : CodeCommand) (y : Command) → Stand w code c d → CommandsAlike w code x y → ReduceAlike w code (reduce_command c who x) (r.reduce_command d who y)
  command-alike c d who x y s (h, inl i) = break-none c d who x.act y.act (λ d. (event_of c x, d)) (λ e. (r.event_of d y, e)) h i
  command-alike c d who x y s (h, inr i) = go (performs c who x.act) (performs d who y.act) (performs-alike c d who x.act y.act s h)
    where
      go : (o : Option CodeConfiguration) (p : Option Configuration) → PerformAlike o p → ReduceAlike w code (option_map (λ d. (event_of c x, d)) o) (option_map (λ e. (r.event_of d y, e)) p)
      go None None q = tt
      go (Some c') (Some d') q = (events-same c d x y s h i.0 i.1 i.2, q)
      go None (Some d') q = absurd q
      go (Some c') None q = absurd q

  -- Services

  abbrev OnlyServes : Option State → Type 0
  OnlyServes None = Unit {0}
  OnlyServes (Some (Serves s)) = Unit {0}
  OnlyServes (Some (Runs r)) = ⊥

  serves-alike : (o : Option State) → OnlyServes o → OptionAlike R (beside o) o
  serves-alike None h = tt
  serves-alike (Some (Serves s)) h = refl
  serves-alike (Some (Runs r)) h = absurd h

  heard-serves : (s : Attending) (m : Message) → OnlyServes (t.hears s m)
  heard-serves s m = go (services.action s.serving (Some (t.heard m)))
    where
      go : (o : Option services.Action) → OnlyServes (option_map (t.served s.end) o)
      go None = tt
      go (Some a) = tt

  says-alike : (e : End) (o : Option services.Action) → ActsAlike R (act_beside (t.says e o)) (t.says e o)
  says-alike e None = tt
  says-alike e (Some a) = (refl, refl, tt, refl)

  serving-alike : (s : Attending) (want' : Want) → CommandsAlike w code (command_beside (t.serving_command s want')) (t.serving_command s want')
  serving-alike s want.Pick = ((refl, refl, λ m. serves-alike (t.hears s m) (heard-serves s m)), inr (refl, refl, refl))
  serving-alike s want.Text = ((refl, refl, λ m. serves-alike (t.hears s m) (heard-serves s m)), inr (refl, refl, refl))
  serving-alike s want.Send = (says-alike s.end (services.action s.serving None), inr (refl, refl, refl))
  serving-alike s want.Spent = (tt, inr (refl, refl, refl))
  serving-alike s want.Closed = (tt, inr (refl, refl, refl))

  state-alike : StandsFor w code → (who : Who) (i : ℕ) (a : CodeState) (b : State) → R a b → (n : ℕ) × (IsEnough code n (Some a) × CommandsAlike w code (wants code n who a i) (t.wants w who b i))
  state-alike standing (Process p) i (RunsCode c) (Runs r) h = wants-alike w code standing p i c r h
  state-alike standing (Service m) i (RunsCode c) (Runs r) h =
      let n = wants-alike w code standing [] i c r h in (n.0, (n.1.0, (tt, inr (refl, refl, refl))))
  state-alike standing (Service m) i (Beside a) (Serves s) h =
      (0, (tt, subst (λ x. CommandsAlike w code (wants code 0 (Service m) (Beside x) i) (t.serving_command s (services.want s.serving))) (sym h) (serving-alike s (services.want s.serving))))
  state-alike standing (Process p) i (Beside a) (Serves s) h = (0, (tt, (tt, inr (refl, refl, refl))))
  state-alike standing who i (RunsCode c) (Serves s) h = absurd h
  state-alike standing who i (Beside a) (Runs r) h = absurd h

-- Code for a source makes the source's reductions, with the same events.
pub reduces-alike : (w : World) (code : Code) → StandsFor w code → (c : CodeConfiguration) (d : Configuration) → Stand w code c d → (who : Who) (i : ℕ) → (n : ℕ) × (IsEnough code n (c.nodes who) × ReduceAlike w code (reduce_code code n c who i) (r.reduce w d who i))
reduces-alike w code standing c d s who i = go (c.nodes who) (d.nodes who) (s.nodes who)
  where
    go : (o : Option CodeState) (p : Option State) → OptionAlike (StandsState w code) o p → (n : ℕ) × (IsEnough code n o × ReduceAlike w code (reduce_state code n c who i o) (r.reduce_state w d who i p))
    go None None h = (0, (tt, tt))
    go (Some a) (Some b) h = let x = state-alike w code standing who i a b h in (x.0, (x.1.0, command-alike w code c d who (wants code x.0 who a i) (t.wants w who b i) s x.1.1))
    go None (Some b) h = absurd h
    go (Some a) None h = absurd h
