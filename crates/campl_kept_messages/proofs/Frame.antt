-- A step of one process or service on one end, which gives this end a new type, keeps a configuration lawful where it keeps what its partner
-- is to take.
use Rattle.std.proofs.Common.{◌≡◌, ◌≢◌, Bool, true, false, List, ◌∷◌, ◌++◌, ◌⊎◌, inl, inr, refl, sym, ap, subst, ◌∙◌, Option, Some, None, if◌then◌else◌, true≢false}
use Rattle.std.proofs.Math.Path.{fun_ext}
use Rattle.campl_tree.specs.declared.service.Side.{Side}
use Rattle.campl_tree.specs.Plain.ChanType.{ChanType, TopBot}
use Rattle.campl_tree.specs.Plain.Decl.{Program}
use Rattle.campl_machine.specs.Names.{End, Who, same_end, same_who}
use Rattle.campl_machine.proofs.Same.{same_end-refl, same_who-is, same_who-refl}
use Rattle.campl_machine.proofs.Ends.{apart, same-end}
use Rattle.campl_machine.proofs.Updates.{split}
use Rattle.campl_types.specs.Names.{Name, same_name, found}
use Rattle.campl_types.proofs.Names.{split-names, same-itself}
use Rattle.campl_types.specs.World.{World, world_of}
use Rattle.campl_types.specs.Polarity.{Splits}
use Rattle.campl_types.specs.Views.{View, deed_of}
use Rattle.campl_types.specs.Held.{Channel, On, with}
use Rattle.campl_service.specs.declared.phase.Phase.TheVariants as phase
use Rattle.campl_peel.specs.Terms.{held_ends}
use Rattle.campl_meaning.specs.States.{Message, EndPair, Ends, Running, Attending, State, Runs, Serves}
use Rattle.campl_meaning.specs.Reductions.{Configuration}
use Rattle.campl_meaning.specs.Views.{view_in, TakesAll}
use Rattle.campl_meaning.specs.Apart.{Place, At, In, Gone, IsCarried, IsJoined, IsOfKind}
use Rattle.campl_meaning.specs.Lawful.{Channels, seen, IsTypedAt, Agree, IsPairOf, IsInPhase, Lawful}
use Rattle.campl_meaning.proofs.Agreeing.{agree-turned}
use Rattle.campl_frame.specs.Frame.{Holds, IsSpent, IsOldPair, IsGoodPair, IsLocal}
use Rattle.campl_frame.proofs.Alone.{IsOneOf, alone-here, alone-others, alone-whose, alone-listed, alone-named}
use Rattle.campl_frame.proofs.Leaving.{leaving, stays-put, stays-kept, goes-unkept, was-put, was-gone, leaving-forest}
use Rattle.campl_frame.proofs.Stays.{agree-same, carries}
use Rattle.campl_frame.proofs.Frame.{local-lawful}
use Rattle.campl_meaning.proofs.Phases.{is_open}
use Rattle.campl_kept_messages.proofs.Continues.{Continues, keeps_ends, gone_on, of-kind, went-on, held-before, held-after, one-end, end-stood, own-names, own-once, own-type}
use Rattle.campl_kept_messages.proofs.Letters.{SamePairs}

-- A new channel at one end

abbrev pub renewed : End → Channel → Channels → Channels
renewed e new channel a = if same_end e a then Some new else channel a

pub new-here : (e : End) (new : Channel) (channel : Channels) → renewed e new channel e ≡ Some new
new-here e new channel = rw (same_end-refl e) refl

pub new-other : (e : End) (new : Channel) (channel : Channels) (a : End) → e ≢ a → renewed e new channel a ≡ channel a
new-other e new channel a n = rw (apart e a n) refl

-- what is held where the end is held under a name, and elsewhere
pub held-here : (e : End) (new : Channel) (channel : Channels) (es : Ends) (x : Name) → found x es ≡ Some e → ((y : Name) (a : End) → found y es ≡ Some a → a ≡ e → x ≡ y)
    → held_ends (renewed e new channel) es ≡ with x (Some new) (held_ends channel es)
held-here e new channel es x hx one = fun_ext (λ y. elim (split-names x y) [
  | inl i ↦
      let hy : found y es ≡ Some e = subst (λ t. found t es ≡ Some e) i hx in
      let s : same_name x y ≡ true = subst (λ t. same_name x t ≡ true) i (same-itself x) in
      rw (s, hy, same_end-refl e) refl
  | inr i ↦ rw i (go y i (found y es) refl)
])
  where
    go : (y : Name) → same_name x y ≡ false → (o : Option End) → found y es ≡ o → held_ends (renewed e new channel) es y ≡ held_ends channel es y
    go y i None h = rw h refl
    go y i (Some a) h = rw h (new-other e new channel a (λ k. let s : same_name x y ≡ true = subst (λ t. same_name x t ≡ true) (one y a h (sym k)) (same-itself x) in true≢false (sym s ∙ i)))

-- Partners

module _ (w : World) (c d : Configuration) (channel channel2 : Channels) where
  -- a step that touches one pair of partners alone
  pub agree-pair : (partner : End → Option End) (e f : End) → ((a b : End) → partner a ≡ Some b → partner b ≡ Some a) → partner e ≡ Some f
      → ((a b : End) → partner a ≡ Some b → e ≢ a → f ≢ a → (channel2 a ≡ channel a) × (d.owed a ≡ c.owed a)) → Agree w d channel2 e f
      → ((a b : End) → partner a ≡ Some b → Agree w c channel a b) → (a b : End) → partner a ≡ Some b → Agree w d channel2 a b
  agree-pair partner e f back pe same new all a b pa = elim (same-end e a) [
    | inl ia ↦
        let ib : f ≡ b = cc (ia, pa, pe) in
        subst (λ t. Agree w d channel2 t b) ia (subst (λ t. Agree w d channel2 e t) ib new)
    | inr ea ↦ elim (same-end f a) [
      | inl ja ↦
          let jb : e ≡ b = cc (ja, pa, back e f pe) in
          subst (λ t. Agree w d channel2 t b) ja (subst (λ t. Agree w d channel2 f t) jb (agree-turned w d channel2 e f new))
      | inr fa ↦
          let eb : e ≢ b = λ k. fa (cc (back a b pa, pe, k)) in
          let fb : f ≢ b = λ k. ea (cc (back a b pa, back e f pe, k)) in
          let sa : (channel2 a ≡ channel a) × (d.owed a ≡ c.owed a) = same a b pa ea fa in
          let sb : (channel2 b ≡ channel b) × (d.owed b ≡ c.owed b) = same b a (back a b pa) eb fb in
          agree-same w c d channel channel2 a b (ap view_in sa.0) (ap view_in sb.0) sa.1 sb.1 (all a b pa)
    ]
  ]

-- The frame

-- who goes on as s2 behind a step on its end e, whose partner is f: e's new channel and what is owed then keep what both are to take
pub record Touches (source : Program) (c : Configuration) (l : Lawful source c) (who : Who) (s s2 : State) (e f : End) (new : Channel) (owed2 : End → List Message) : Type 0 where
  pub is : c.nodes who ≡ Some s
  pub on : Continues s s2
  pub stands : l.place e ≡ At who
  pub joined : c.partner e ≡ Some f
  pub same : SamePairs c owed2
  pub only : (a : End) → e ≢ a → f ≢ a → owed2 a ≡ c.owed a
  pub closed : keeps_ends s2 ≡ false → (t : Side) × (new ≡ On t TopBot)
  pub typed : (r : Running) → s2 ≡ Runs r → IsTypedAt (world_of source) (renewed e new l.channel) r
  pub phases : (b : Attending) → s2 ≡ Serves b → IsInPhase (renewed e new l.channel) b
  pub fits : Agree (world_of source) (gone_on c who s2 owed2) (renewed e new l.channel) e f
  pub no_pair : (a b : End) (before after : List Message) → owed2 e ≡ before ++ (EndPair a b ∷ after) → ⊥
  -- a pair that the partner owes was owed before, and is reached by what is now before it
  pub pairs : (a b : End) (before after : List Message) → owed2 f ≡ before ++ (EndPair a b ∷ after) → (old : List Message) × (c.owed f ≡ old ++ (EndPair a b ∷ after))
      × ((v : View) (x y : ChanType) → TakesAll (world_of source) (seen l.channel e) old v → deed_of (world_of source) v ≡ Splits x y → TakesAll (world_of source) (view_in (Some new)) before v)

module _ (source : Program) (c : Configuration) (l : Lawful source c) (who : Who) (s s2 : State) (e f : End) (new : Channel) (owed2 : End → List Message)
    (t : Touches source c l who s s2 e f new owed2) where
  abbrev w : World
  w = world_of source

  abbrev d : Configuration
  d = gone_on c who s2 owed2

  abbrev channel2 : Channels
  channel2 = renewed e new l.channel

  abbrev kept : End → Bool
  kept a = keeps_ends s2

  abbrev place2 : End → Place
  place2 = leaving who kept l.place

  abbrev IsNew : Who → State → Type 0
  IsNew v u = (v ≡ who) × (◌≡◌ {A = Option State} (Some s2) (Some u))

  -- Nodes

  whose : (v : Who) (u : State) → d.nodes v ≡ Some u → IsOneOf c.nodes who (Some s2) v u
  whose = alone-whose c.nodes who (Some s2)

  is-next : (u : State) → ◌≡◌ {A = Option State} (Some s2) (Some u) → s2 ≡ u
  is-next u j = cc j

  kind : IsOfKind who s
  kind = l.apart.placed.kinds who s t.is

  on-as : (u : State) → ◌≡◌ {A = Option State} (Some s2) (Some u) → Continues s u
  on-as u j = subst (Continues s) (is-next u j) t.on

  kept-as : (u : State) → ◌≡◌ {A = Option State} (Some s2) (Some u) → keeps_ends s2 ≡ keeps_ends u
  kept-as u j = ap keeps_ends (is-next u j)

  -- Ends

  own : (v : Who) (u : State) (a : End) → IsNew v u → Holds u a → (place2 a ≡ At v) × IsJoined d a
  own v u a (i, j) h =
      let (at, joined, stays) = held-before source c l who s u a kind t.is (on-as u j) h in
      (stays-kept who kept l.place a (kept-as u j ∙ stays) ∙ (at ∙ ap At (sym i)), joined)

  stands : (v : Who) (a : End) → IsJoined d a → place2 a ≡ At v → ((u : State) × IsNew v u × Holds u a) ⊎ ((v ≢ who) × (l.place a ≡ At v) × IsJoined c a)
  stands v a j i = go (was-put who kept l.place a (At v) i (λ k. cc k)) (split (same_who who v)) (split (keeps_ends s2))
    where
      go : l.place a ≡ At v → (same_who who v ≡ true) ⊎ (same_who who v ≡ false) → (keeps_ends s2 ≡ true) ⊎ (keeps_ends s2 ≡ false) → ((u : State) × IsNew v u × Holds u a) ⊎ ((v ≢ who) × (l.place a ≡ At v) × IsJoined c a)
      go at (inr n) o = inr ((λ k. true≢false (sym (same_who-refl who) ∙ (ap (same_who who) (sym k) ∙ n))), at, j)
      go at (inl k) (inl o) =
          let wv : who ≡ v = same_who-is who v k in
          inl (s2, (sym wv, refl), held-after source c l who s s2 a kind t.is t.on o (at ∙ ap At (sym wv), j))
      go at (inl k) (inr o) =
          let g : place2 a ≡ Gone = goes-unkept who kept l.place a (at ∙ ap At (sym (same_who-is who v k))) o in
          absurd (cc (g, i))

  gone : (a : End) → IsJoined d a → place2 a ≡ Gone → IsSpent (channel2 a) ⊎ ((l.place a ≡ Gone) × IsJoined c a)
  gone a j i = elim (was-gone who kept l.place a i) [
    | inl g ↦ inr (g, j)
    | inr (at, o) ↦
        let (r, q) = t.closed o in
        let same : e ≡ a = one-end source c l who s s2 e a kind t.is t.on o (t.stands, (f, t.joined)) (at, j) in
        inl (inr (r, subst (λ z. channel2 z ≡ Some (On r TopBot)) same (new-here e new l.channel ∙ ap Some q)))
  ]

  shut : (v : Who) (b : Attending) → IsNew v (Serves b) → b.serving.phase ≡ phase.Closed → (place2 b.end ≡ Gone) × IsJoined d b.end
  shut v b (i, j) k =
      let (at, joined) = end-stood source c l who s b kind t.is (on-as (Serves b) j) in
      (goes-unkept who kept l.place b.end at (kept-as (Serves b) j ∙ ap is_open k), joined)

  other-channel : (a : End) → l.place a ≢ At who → channel2 a ≡ l.channel a
  other-channel a n = new-other e new l.channel a (λ k. n (ap l.place (sym k) ∙ t.stands))

  types : (r : Running) (x : Name) (a : End) → Continues s (Runs r) → found x r.ends ≡ Some a → (y : Channel) × (channel2 a ≡ Some y)
  types r x a on h = elim (same-end e a) [
    | inl k ↦ (new, subst (λ z. channel2 z ≡ Some new) k (new-here e new l.channel))
    | inr n ↦ let (y, j) = own-type source c l who s r x a kind t.is on h in (y, new-other e new l.channel a n ∙ j)
  ]

  -- Pairs

  -- the ends of a pair are carried, and so others than e
  not-in-pair : (z a b g : End) (before after : List Message) → c.owed z ≡ before ++ (EndPair a b ∷ after) → (g ≡ a) ⊎ (g ≡ b) → channel2 g ≡ l.channel g
  not-in-pair z a b g before after i m =
      let (at, j) = l.apart.placed.carried z g (subst (λ ms. IsCarried ms g) (sym i) (carries before after a b g m)) in
      other-channel g (λ k. cc (at, k))

  back : c.partner f ≡ Some e
  back = l.apart.placed.paired.back e f t.joined

  -- a pair that the partner owes
  partner-pair : (a b : End) (before after : List Message) → owed2 f ≡ before ++ (EndPair a b ∷ after) → IsGoodPair w d place2 channel2 f a b before after
  partner-pair a b before after i =
      let (old, j, reach) = t.pairs a b before after i in
      let (g, n) = l.pairs.given_up f a b old after j in
      let elsewhere : l.place f ≢ At who = λ k. cc (g, k) in
      record {
        different = l.pairs.different f a b old after j;
        last = l.pairs.last f a b old after j;
        place = stays-put who kept l.place f elsewhere ∙ g;
        channel = other-channel f elsewhere ∙ n;
        typed = λ y k.
            let ye : e ≡ y = cc (back, k) in
            let p : IsPairOf w l.channel old e a b = l.pairs.typed f a b e old after j back in
            subst (λ y. IsPairOf w channel2 before y a b) ye (record {
              view = p.view;
              first = p.first;
              second = p.second;
              reached = subst (λ o. TakesAll w (view_in o) before p.view) (sym (new-here e new l.channel)) (reach p.view p.first p.second p.reached p.splits);
              splits = p.splits;
              is_first = (p.is_first.0, not-in-pair f a b a old after j (inl refl) ∙ p.is_first.1, p.is_first.2);
              is_second = (p.is_second.0, not-in-pair f a b b old after j (inr refl) ∙ p.is_second.1, p.is_second.2);
            });
      }

  pairs : (z a b : End) (before after : List Message) → owed2 z ≡ before ++ (EndPair a b ∷ after) → IsOldPair source c d l None channel2 z a b before after ⊎ IsGoodPair w d place2 channel2 z a b before after
  pairs z a b before after i = elim (same-end f z) [
    | inl k ↦ inr (subst (λ y. IsGoodPair w d place2 channel2 y a b before after) k (partner-pair a b before after (ap owed2 k ∙ i)))
    | inr m ↦
        let n : e ≢ z = λ k. t.no_pair a b before after (ap owed2 k ∙ i) in
        inl (record {
          owed = sym (t.only z n m) ∙ i;
          untaken = λ k. cc k;
          partner = λ y j. (j, ap view_in (new-other e new l.channel y (λ k. m (cc (l.apart.placed.paired.back z y j, t.joined, k)))));
        })
  ]

  local : IsLocal source c d l who IsNew None channel2 place2
  local = record {
    here = λ v u (i, j). ap d.nodes i ∙ (alone-here c.nodes who (Some s2) ∙ j);
    others = alone-others c.nodes who (Some s2);
    whose = whose;
    nodes = l.nodes;
    listed = alone-listed c d who s (Some s2) t.is whose source l;
    ends = l.ends;
    within = l.joined;
    paired = l.apart.placed.paired;
    joined = λ a j n. j;
    idle = λ a i. t.same.unpaired a i ∙ l.apart.placed.idle a i;
    named = alone-named c d who s (Some s2) t.is whose l.apart.named (λ a j. j) (λ r j. went-on s r (on-as (Runs r) j));
    forest = leaving-forest source c l d who kept refl t.same.owes;
    place = λ a j n m. stays-put who kept l.place a n;
    channel = λ a j n m. other-channel a n;
    own = own;
    at = stands;
    carrier = λ z a j i. t.same.carried_to z a (l.apart.placed.carrier z a j (was-put who kept l.place a (In z) i (λ k. cc k)));
    carried = λ z a i. inl (t.same.carried_from z a i, λ n. cc n);
    gone = gone;
    nowhere = λ a i. let g : l.place a ≡ Gone = l.apart.placed.nowhere a i in stays-put who kept l.place a (λ k. cc (g, k)) ∙ g;
    kinds = λ v u (i, j). subst (λ z. IsOfKind z u) (sym i) (of-kind who s u (on-as u j) kind);
    names = λ v r (i, j). own-names source c l who s r kind t.is (on-as (Runs r) j);
    once = λ v r x y a (i, j). own-once source c l who s r x y a kind t.is (on-as (Runs r) j);
    typed = λ v r (i, j). t.typed r (is-next (Runs r) j);
    types = λ v r x a (i, j). types r x a (on-as (Runs r) j);
    phases = λ v b (i, j). t.phases b (is-next (Serves b) j);
    shut = shut;
    agree = agree-pair w c d l.channel channel2 c.partner e f l.apart.placed.paired.back t.joined
        (λ a b pa ea fa. (new-other e new l.channel a ea, t.only a ea fa)) t.fits l.agree;
    pairs = pairs;
  }

  pub touched : Lawful source d
  touched = local-lawful source c d l who IsNew None channel2 place2 local
