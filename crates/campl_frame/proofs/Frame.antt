-- A local step keeps a configuration lawful: all that it leaves alone is as it was.
use Rattle.std.proofs.Common.{◌≡◌, ◌≢◌, ◌⊎◌, ◌∙◌, inl, inr, refl, sym, ap, subst, ℕ, IsTrue, List, ◌∷◌, ◌++◌, Option, Some, None}
use Rattle.campl_tree.specs.Plain.Decl.{Program}
use Rattle.campl_machine.specs.Names.{Path, End, Who, Process, Service}
use Rattle.campl_types.specs.Names.{Name, are_distinct, found}
use Rattle.campl_types.specs.World.{world_of}
use Rattle.campl_types.specs.Held.{Channel}
use Rattle.campl_service.specs.declared.phase.Phase.{Phase}
use Rattle.campl_service.specs.declared.phase.Phase.TheVariants as phase
use Rattle.campl_meaning.specs.States.{Message, EndPair, Running, Attending, State, Runs, Serves}
use Rattle.campl_meaning.specs.Reductions.{Configuration}
use Rattle.campl_meaning.specs.Apart.{Place, At, In, Gone, IsCarried, IsJoined, IsHeldBy, IsServedBy, IsOfKind, IsPlaced, end_names}
use Rattle.campl_meaning.specs.Lawful.{Channels, IsTypedAt, AreLastPairs, IsInPhase, Lawful}
use Rattle.campl_peel.proofs.Peeling.{none-or}
use Rattle.campl_frame.specs.Frame.{Holds, IsSpent, IsLocal}
use Rattle.campl_frame.proofs.Stays.{typed-same, pair-same, carries, filled}

module _ (source : Program) (c d : Configuration) (l : Lawful source c) (who : Who) (new : Who → State → Type 0) (from : Option End) (channel2 : Channels) (place2 : End → Place)
    (h : IsLocal source c d l who new from channel2 place2) where
  -- Ends that were elsewhere

  stays-at : (e : End) (v : Who) → v ≢ who → (l.place e ≡ At v) × IsJoined c e → (place2 e ≡ At v) × IsJoined d e
  stays-at e v n (i, j) =
      let m : l.place e ≢ At who = λ k. n (cc (i, k)) in
      (h.place e j m (λ z f k. cc (i, k)) ∙ i, h.joined e j m)

  channel-at : (e : End) (v : Who) → v ≢ who → (l.place e ≡ At v) × IsJoined c e → channel2 e ≡ l.channel e
  channel-at e v n (i, j) = h.channel e j (λ k. n (cc (i, k))) (λ z f k. cc (i, k))

  stays-gone : (e : End) → (l.place e ≡ Gone) × IsJoined c e → (place2 e ≡ Gone) × IsJoined d e
  stays-gone e (i, j) = (h.place e j (λ k. cc (i, k)) (λ z f k. cc (i, k)) ∙ i, h.joined e j (λ k. cc (i, k)))

  channel-gone : (e : End) → (l.place e ≡ Gone) × IsJoined c e → channel2 e ≡ l.channel e
  channel-gone e (i, j) = h.channel e j (λ k. cc (i, k)) (λ z f k. cc (i, k))

  -- in a pair that isn't taken
  untaken : (z e : End) → from ≢ Some z → l.place e ≡ In z → (y : End) → from ≡ Some y → l.place e ≢ In y
  untaken z e n i y f j = n (f ∙ ap Some (let q : ◌≡◌ {A = Place} (In y) (In z) = sym j ∙ i in cc q))

  -- Part 1

  kinds-after : (v : Who) (s : State) → d.nodes v ≡ Some s → IsOfKind v s
  kinds-after v s is = elim (h.whose v s is) [ inl n ↦ h.kinds v s n | inr (n, i) ↦ l.apart.placed.kinds v s i ]

  held-after : (q : Path) (e : End) → IsHeldBy d q e → (place2 e ≡ At (Process q)) × IsJoined d e
  held-after q e (s, x, is, f) = elim (h.whose (Process q) (Runs s) is) [
    | inl n ↦ h.own (Process q) (Runs s) e n (x, f)
    | inr (n, i) ↦ stays-at e (Process q) n (l.apart.placed.held q e (s, x, i, f))
  ]

  served-after : (n : ℕ) (e : End) → IsServedBy d n e → (place2 e ≡ At (Service n)) × IsJoined d e
  served-after n e (s, is, f, g) = elim (h.whose (Service n) (Serves s) is) [
    | inl m ↦ h.own (Service n) (Serves s) e m (f, g)
    | inr (m, i) ↦ stays-at e (Service n) m (l.apart.placed.served n e (s, i, f, g))
  ]

  carried-after : (z e : End) → IsCarried (d.owed z) e → (place2 e ≡ In z) × IsJoined d e
  carried-after z e k = elim (h.carried z e k) [
    | inl (i, n) ↦
        let o : (l.place e ≡ In z) × IsJoined c e = l.apart.placed.carried z e i in
        (h.place e o.1 (λ j. cc (o.0, j)) (untaken z e n o.0) ∙ o.0, h.joined e o.1 (λ j. cc (o.0, j)))
    | inr o ↦ o
  ]

  holder-after : (q : Path) (e : End) → IsJoined d e → place2 e ≡ At (Process q) → IsHeldBy d q e
  holder-after q e j i = elim (h.at (Process q) e j i) [
    | inl (s, n, o) ↦ own s n o
    | inr (n, k, m) ↦ let (s, x, is, f) = l.apart.placed.holder q e m k in (s, x, h.others (Process q) (Runs s) n is, f)
  ]
    where
      own : (s : State) → new (Process q) s → Holds s e → IsHeldBy d q e
      own (Runs r) n (x, f) = (r, x, h.here (Process q) (Runs r) n, f)
      own (Serves a) n o = absurd (h.kinds (Process q) (Serves a) n)

  server-after : (n : ℕ) (e : End) → IsJoined d e → place2 e ≡ At (Service n) → IsServedBy d n e
  server-after n e j i = elim (h.at (Service n) e j i) [
    | inl (s, m, o) ↦ own s m o
    | inr (m, k, b) ↦ let (s, is, f, g) = l.apart.placed.server n e b k in (s, h.others (Service n) (Serves s) m is, f, g)
  ]
    where
      own : (s : State) → new (Service n) s → Holds s e → IsServedBy d n e
      own (Serves a) m (f, g) = (a, h.here (Service n) (Serves a) m, f, g)
      own (Runs r) m o = absurd (h.kinds (Service n) (Runs r) m)

  shut-after : (n : ℕ) (s : Attending) → d.nodes (Service n) ≡ Some (Serves s) → s.serving.phase ≡ phase.Closed → (place2 s.end ≡ Gone) × IsJoined d s.end
  shut-after n s is i = elim (h.whose (Service n) (Serves s) is) [
    | inl m ↦ h.shut (Service n) s m i
    | inr (m, k) ↦ stays-gone s.end (l.apart.placed.shut n s k i)
  ]

  names-after : (q : Path) (s : Running) → d.nodes (Process q) ≡ Some (Runs s) → IsTrue (are_distinct (end_names s.ends))
  names-after q s is = elim (h.whose (Process q) (Runs s) is) [ inl n ↦ h.names (Process q) s n | inr (n, i) ↦ l.apart.placed.names q s i ]

  ends-after : (q : Path) (s : Running) (x y : Name) (e : End) → d.nodes (Process q) ≡ Some (Runs s) → found x s.ends ≡ Some e → found y s.ends ≡ Some e → x ≡ y
  ends-after q s x y e is f g = elim (h.whose (Process q) (Runs s) is) [
    | inl n ↦ h.once (Process q) s x y e n f g
    | inr (n, i) ↦ l.apart.placed.ends q s x y e i f g
  ]

  placed-after : IsPlaced d place2
  placed-after = record {
    kinds = kinds-after;
    paired = h.paired;
    idle = h.idle;
    nowhere = h.nowhere;
    held = held-after;
    served = served-after;
    carried = carried-after;
    shut = shut-after;
    holder = holder-after;
    server = server-after;
    carrier = h.carrier;
    names = names-after;
    ends = ends-after;
  }

  -- Types

  given-up-after : (e : End) → IsJoined d e → place2 e ≡ Gone → IsSpent (channel2 e)
  given-up-after e j i = elim (h.gone e j i) [
    | inl n ↦ n
    | inr o ↦ subst IsSpent (sym (channel-gone e o)) (l.given_up e o.1 o.0)
  ]

  has-type-after : (q : Path) (e : End) → IsHeldBy d q e → (k : Channel) × (channel2 e ≡ Some k)
  has-type-after q e (s, x, is, f) = elim (h.whose (Process q) (Runs s) is) [
    | inl n ↦ h.types (Process q) s x e n f
    | inr (n, i) ↦
        let k : (k : Channel) × (l.channel e ≡ Some k) = l.has_type q e (s, x, i, f) in
        (k.0, channel-at e (Process q) n (l.apart.placed.held q e (s, x, i, f)) ∙ k.1)
  ]

  typed-after : (q : Path) (s : Running) → d.nodes (Process q) ≡ Some (Runs s) → IsTypedAt (world_of source) channel2 s
  typed-after q s is = elim (h.whose (Process q) (Runs s) is) [
    | inl n ↦ h.typed (Process q) s n
    | inr (n, i) ↦ typed-same (world_of source) l.channel channel2 s (λ x e f. channel-at e (Process q) n (l.apart.placed.held q e (s, x, i, f))) (l.typed q s i)
  ]

  -- the end of another service
  end-of-service : (n : ℕ) (s : Attending) (ph : Phase) → s.serving.phase ≡ ph → Service n ≢ who → c.nodes (Service n) ≡ Some (Serves s) → channel2 s.end ≡ l.channel s.end
  end-of-service n s phase.Closed i m is = channel-gone s.end (l.apart.placed.shut n s is i)
  end-of-service n s phase.Pick i m is = channel-at s.end (Service n) m (l.apart.placed.served n s.end (s, is, refl, λ j. cc (i, j)))
  end-of-service n s phase.Text i m is = channel-at s.end (Service n) m (l.apart.placed.served n s.end (s, is, refl, λ j. cc (i, j)))
  end-of-service n s phase.Send i m is = channel-at s.end (Service n) m (l.apart.placed.served n s.end (s, is, refl, λ j. cc (i, j)))

  phases-after : (n : ℕ) (s : Attending) → d.nodes (Service n) ≡ Some (Serves s) → IsInPhase channel2 s
  phases-after n s is = elim (h.whose (Service n) (Serves s) is) [
    | inl m ↦ h.phases (Service n) s m
    | inr (m, i) ↦
        let k : IsInPhase l.channel s = l.phases n s i in
        record { channel_type = k.channel_type; held = end-of-service n s s.serving.phase refl m i ∙ k.held; same = k.same }
  ]

  -- Pairs

  -- an end that owes a pair is joined
  owes-joined : (z a b : End) (before after : List Message) → c.owed z ≡ before ++ (EndPair a b ∷ after) → IsJoined c z
  owes-joined z a b before after i = elim (none-or (c.partner z)) [
    | inl n ↦ absurd (filled before after a b (sym i ∙ l.apart.placed.idle z n))
    | inr j ↦ j
  ]

  old-gone : (z a b : End) (before after : List Message) → c.owed z ≡ before ++ (EndPair a b ∷ after) → (place2 z ≡ Gone) × (channel2 z ≡ None)
  old-gone z a b before after i =
      let g : (l.place z ≡ Gone) × (l.channel z ≡ None) = l.pairs.given_up z a b before after i in
      let j : IsJoined c z = owes-joined z a b before after i in
      ((stays-gone z (g.0, j)).0, channel-gone z (g.0, j) ∙ g.1)

  -- the end of an old pair
  in-pair : (z a b e : End) (before after : List Message) → c.owed z ≡ before ++ (EndPair a b ∷ after) → from ≢ Some z → (e ≡ a) ⊎ (e ≡ b) → channel2 e ≡ l.channel e
  in-pair z a b e before after i n m =
      let o : (l.place e ≡ In z) × IsJoined c e = l.apart.placed.carried z e (subst (λ t. IsCarried t e) (sym i) (carries before after a b e m)) in
      h.channel e o.1 (λ j. cc (o.0, j)) (untaken z e n o.0)

  pairs-after : AreLastPairs (world_of source) d place2 channel2
  pairs-after = record {
    different = λ z a b before after i. elim (h.pairs z a b before after i) [ inl o ↦ l.pairs.different z a b before after o.owed | inr g ↦ g.different ];
    last = λ z a b before after i. elim (h.pairs z a b before after i) [ inl o ↦ l.pairs.last z a b before after o.owed | inr g ↦ g.last ];
    given_up = λ z a b before after i. elim (h.pairs z a b before after i) [ inl o ↦ old-gone z a b before after o.owed | inr g ↦ (g.place, g.channel) ];
    typed = λ z a b y before after i py. elim (h.pairs z a b before after i) [
      | inl o ↦
          let q : (c.partner z ≡ Some y) × _ = o.partner y py in
          pair-same (world_of source) l.channel channel2 before y a b q.1 (in-pair z a b a before after o.owed o.untaken (inl refl)) (in-pair z a b b before after o.owed o.untaken (inr refl))
          (l.pairs.typed z a b y before after o.owed q.0)
      | inr g ↦ g.typed y py
    ];
  }

  -- the step keeps what is lawful
  pub local-lawful : Lawful source d
  local-lawful = record {
    accepted = l.accepted;
    channel = channel2;
    place = place2;
    nodes = h.nodes;
    listed = h.listed;
    ends = h.ends;
    joined = h.within;
    has_type = has-type-after;
    apart = record { placed = placed-after; forest = h.forest; named = h.named };
    given_up = given-up-after;
    typed = typed-after;
    agree = h.agree;
    pairs = pairs-after;
    phases = phases-after;
  }
