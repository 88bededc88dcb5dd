-- A step of a process that may bear a child, and hand over ends: what it asks, by the ends that the process and the child hold.
use Rattle.std.proofs.Common.{◌≡◌, ◌≢◌, ◌⊎◌, ◌∙◌, inl, inr, refl, sym, ap, subst, true, false, true≢false, IsTrue, List, [], ◌∷◌, ◌++◌, Option, Some, None, if◌then◌else◌}
use Rattle.std.proofs.lemmas.Bool.{false_from_ne_true}
use Rattle.campl_tree.specs.Plain.Decl.{Program}
use Rattle.campl_machine.specs.Names.{Path, End, Who, Process}
use Rattle.campl_machine.specs.Graph.{NoCycle}
use Rattle.campl_machine.specs.Independence.{Paired}
use Rattle.campl_machine.proofs.Updates.{split}
use Rattle.campl_types.specs.Names.{Name, are_distinct, found}
use Rattle.campl_types.specs.World.{world_of}
use Rattle.campl_types.specs.Held.{Channel}
use Rattle.campl_meaning.specs.States.{Message, EndPair, Ends, Running, Attending, State, Runs, Serves}
use Rattle.campl_meaning.specs.Wants.{child}
use Rattle.campl_meaning.specs.Reductions.{Configuration}
use Rattle.campl_meaning.specs.Apart.{Place, At, In, Gone, IsCarried, IsJoined, IsNamed, IsOfKind, graph, end_names}
use Rattle.campl_meaning.specs.Lawful.{Channels, seen, IsTypedAt, Agree, Lawful}
use Rattle.campl_meaning.proofs.Finite.{IsFinite}
use Rattle.campl_peel.proofs.Peeling.{none-or}
use Rattle.campl_frame.specs.Frame.{Holds, IsGoodPair, IsLocal}
use Rattle.campl_frame.proofs.Listed.{lists, lists-found, found-listed}
use Rattle.campl_frame.proofs.Stays.{filled}
use Rattle.campl_frame.proofs.Frame.{local-lawful}

-- the ends of a child, if there is one
abbrev pub kin_ends : Option Running → Ends
kin_ends None = []
kin_ends (Some k) = k.ends

-- the places after a step: those that the child holds, those that the process holds, and the rest
abbrev pub settled : Path → Running → Running → Option Running → (End → Place) → End → Place
settled p r r2 kin rest e = if lists e (kin_ends kin) then At (child p r) else if lists e r2.ends then At (Process p) else rest e

-- the process p makes a step from c to d, where it goes on as r2 and may bear a child. It may take the pair that the end `from` owes.
-- The ends that it and its child hold stand as they say; each other end stands as `rest` says.
pub record Hands (source : Program) (c d : Configuration) (l : Lawful source c) (p : Path) (r r2 : Running) (kin : Option Running) (from : Option End)
    (channel2 : Channels) (rest : End → Place) : Type 0 where
  pub here : d.nodes (Process p) ≡ Some (Runs r2)
  pub born : (k : Running) → kin ≡ Some k → d.nodes (child p r) ≡ Some (Runs k)
  pub others : (v : Who) (s : State) → v ≢ Process p → c.nodes v ≡ Some s → d.nodes v ≡ Some s
  pub whose : (v : Who) (s : State) → d.nodes v ≡ Some s →
      ((v ≡ Process p) × (s ≡ Runs r2)) ⊎ (((k : Running) × (kin ≡ Some k) × (v ≡ child p r) × (s ≡ Runs k)) ⊎ ((v ≢ Process p) × (c.nodes v ≡ Some s)))
  pub paired : Paired d
  pub wired : (e f : End) → c.partner e ≡ Some f → d.partner e ≡ Some f
  pub idle : (e : End) → d.partner e ≡ None → d.owed e ≡ []
  pub finite : IsFinite d
  -- what the process and its child hold: new, the process's own before, or taken
  pub names : IsTrue (are_distinct (end_names r2.ends))
  pub once : (x y : Name) (e : End) → found x r2.ends ≡ Some e → found y r2.ends ≡ Some e → x ≡ y
  pub kin_names : (k : Running) → kin ≡ Some k → IsTrue (are_distinct (end_names k.ends))
  pub kin_once : (k : Running) → kin ≡ Some k → (x y : Name) (e : End) → found x k.ends ≡ Some e → found y k.ends ≡ Some e → x ≡ y
  pub own_joined : (e : End) → (lists e (kin_ends kin) ≡ true) ⊎ (lists e r2.ends ≡ true) → IsJoined d e
  pub own_free : (e : End) → (lists e (kin_ends kin) ≡ true) ⊎ (lists e r2.ends ≡ true) →
      (c.partner e ≡ None) ⊎ ((l.place e ≡ At (Process p)) ⊎ ((z : End) × (from ≡ Some z) × (l.place e ≡ In z)))
  pub shared : (e : End) → lists e (kin_ends kin) ≡ true → lists e r2.ends ≡ true → ⊥
  -- the rest
  pub rest_same : (e : End) → IsJoined c e → l.place e ≢ At (Process p) → rest e ≡ l.place e
  pub rest_nowhere : (e : End) → c.partner e ≡ None → d.partner e ≡ None → rest e ≡ Gone
  pub rest_at : (e : End) (v : Who) → IsJoined d e → lists e (kin_ends kin) ≡ false → lists e r2.ends ≡ false → rest e ≡ At v → IsJoined c e × (l.place e ≡ At v) × (v ≢ Process p)
  pub rest_in : (z e : End) → IsJoined d e → lists e (kin_ends kin) ≡ false → lists e r2.ends ≡ false → rest e ≡ In z → IsCarried (d.owed z) e
  pub rest_gone : (e : End) → IsJoined d e → lists e (kin_ends kin) ≡ false → lists e r2.ends ≡ false → rest e ≡ Gone → (channel2 e ≡ None) ⊎ (IsJoined c e × (l.place e ≡ Gone))
  pub carried : (z e : End) → IsCarried (d.owed z) e →
      (IsCarried (c.owed z) e × (from ≢ Some z)) ⊎ (IsJoined d e × (rest e ≡ In z) × (lists e (kin_ends kin) ≡ false) × (lists e r2.ends ≡ false))
  -- types
  pub same_channel : (e : End) → IsJoined c e → l.place e ≢ At (Process p) → ((z : End) → from ≡ Some z → l.place e ≢ In z) → channel2 e ≡ l.channel e
  pub typed : IsTypedAt (world_of source) channel2 r2
  pub kin_typed : (k : Running) → kin ≡ Some k → IsTypedAt (world_of source) channel2 k
  pub types : (x : Name) (e : End) → found x r2.ends ≡ Some e → (t : Channel) × (channel2 e ≡ Some t)
  pub kin_types : (k : Running) → kin ≡ Some k → (x : Name) (e : End) → found x k.ends ≡ Some e → (t : Channel) × (channel2 e ≡ Some t)
  pub agree : (e f : End) → d.partner e ≡ Some f → Agree (world_of source) d channel2 e f
  -- pairs
  pub pairs : (z a b : End) (before after : List Message) → d.owed z ≡ before ++ (EndPair a b ∷ after) →
      ((c.owed z ≡ before ++ (EndPair a b ∷ after)) × (from ≢ Some z)) ⊎ IsGoodPair (world_of source) d (settled p r r2 kin rest) channel2 z a b before after
  pub pair_seen : (z a b y : End) (before after : List Message) → c.owed z ≡ before ++ (EndPair a b ∷ after) → from ≢ Some z → c.partner z ≡ Some y → seen channel2 y ≡ seen l.channel y

module _ (source : Program) (c d : Configuration) (l : Lawful source c) (p : Path) (r r2 : Running) (kin : Option Running) (from : Option End)
    (channel2 : Channels) (rest : End → Place) (h : Hands source c d l p r r2 kin from channel2 rest) where
  abbrev place2 : End → Place
  place2 = settled p r r2 kin rest

  -- what the step leaves: the process and the child
  abbrev IsNew : Who → State → Type 0
  IsNew v s = ((v ≡ Process p) × (s ≡ Runs r2)) ⊎ ((k : Running) × (kin ≡ Some k) × (v ≡ child p r) × (s ≡ Runs k))

  pub at-other : (e : End) → lists e (kin_ends kin) ≡ false → lists e r2.ends ≡ false → place2 e ≡ rest e
  at-other e i j = rw (i, j) refl

  pub at-own : (e : End) → lists e r2.ends ≡ true → place2 e ≡ At (Process p)
  at-own e j = elim (split (lists e (kin_ends kin))) [ inl i ↦ absurd (h.shared e i j) | inr i ↦ rw (i, j) refl ]

  pub at-kin : (e : End) → lists e (kin_ends kin) ≡ true → place2 e ≡ At (child p r)
  at-kin e i = rw i refl

  -- an end that was elsewhere isn't among them
  pub not-own : (e : End) → IsJoined c e → l.place e ≢ At (Process p) → ((z : End) → from ≡ Some z → l.place e ≢ In z) → (lists e (kin_ends kin) ≡ false) × (lists e r2.ends ≡ false)
  not-own e j n m = (false_from_ne_true (lists e (kin_ends kin)) (λ i. out (h.own_free e (inl i))), false_from_ne_true (lists e r2.ends) (λ i. out (h.own_free e (inr i))))
    where
      out : (c.partner e ≡ None) ⊎ ((l.place e ≡ At (Process p)) ⊎ ((z : End) × (from ≡ Some z) × (l.place e ≡ In z))) → ⊥
      out (inl i) = cc (i, j.1)
      out (inr (inl i)) = n i
      out (inr (inr (z, f, i))) = m z f i

  -- so it stands where it stood
  pub stays : (e : End) → IsJoined c e → l.place e ≢ At (Process p) → ((z : End) → from ≡ Some z → l.place e ≢ In z) → place2 e ≡ l.place e
  stays e j n m = let o : (lists e (kin_ends kin) ≡ false) × (lists e r2.ends ≡ false) = not-own e j n m in at-other e o.0 o.1 ∙ h.rest_same e j n

  pub joined-on : (e : End) → IsJoined c e → IsJoined d e
  joined-on e (f, i) = (f, h.wired e f i)

  -- an end that owed a pair had the partner that it has
  partner-was : (z a b : End) (before after : List Message) (y : End) → c.owed z ≡ before ++ (EndPair a b ∷ after) → d.partner z ≡ Some y → c.partner z ≡ Some y
  partner-was z a b before after y i py = elim (none-or (c.partner z)) [
    | inl n ↦ absurd (filled before after a b (sym i ∙ l.apart.placed.idle z n))
    | inr (f, j) ↦ j ∙ (sym (h.wired z f j) ∙ py)
  ]

  own-at : (v : Who) (s : State) (e : End) → IsNew v s → Holds s e → (place2 e ≡ At v) × IsJoined d e
  own-at v s e (inl (i, j)) o =
      let (x, f) : Holds (Runs r2) e = subst (λ z. Holds z e) j o in
      let g : lists e r2.ends ≡ true = lists-found e r2.ends x f in
      (at-own e g ∙ ap At (sym i), h.own_joined e (inr g))
  own-at v s e (inr (k, m, i, j)) o =
      let (x, f) : Holds (Runs k) e = subst (λ z. Holds z e) j o in
      let g : lists e (kin_ends kin) ≡ true = subst (λ z. lists e (kin_ends z) ≡ true) (sym m) (lists-found e k.ends x f) in
      (at-kin e g ∙ ap At (sym i), h.own_joined e (inl g))

  stands : (v : Who) (e : End) → IsJoined d e → place2 e ≡ At v → ((s : State) × IsNew v s × Holds s e) ⊎ ((v ≢ Process p) × (l.place e ≡ At v) × IsJoined c e)
  stands v e j i = elim (split (lists e (kin_ends kin))) [
    | inl a ↦ inl (kin-holds (none-or kin) a)
    | inr a ↦ elim (split (lists e r2.ends)) [
      | inl b ↦
          let k : ◌≡◌ {A = Place} (At (Process p)) (At v) = sym (at-own e b) ∙ i in
          inl (Runs r2, inl (cc k, refl), found-listed e r2.ends h.names b)
      | inr b ↦
          let o : IsJoined c e × (l.place e ≡ At v) × (v ≢ Process p) = h.rest_at e v j a b (sym (at-other e a b) ∙ i) in
          inr (o.2, o.1, o.0)
    ]
  ]
    where
      kin-holds : (kin ≡ None) ⊎ ((k : Running) × (kin ≡ Some k)) → lists e (kin_ends kin) ≡ true → (s : State) × IsNew v s × Holds s e
      kin-holds (inl n) a = absurd (let b : false ≡ true = subst (λ z. lists e (kin_ends z) ≡ true) n a in true≢false (sym b))
      kin-holds (inr (k, m)) a =
          let b : lists e k.ends ≡ true = subst (λ z. lists e (kin_ends z) ≡ true) m a in
          let t : ◌≡◌ {A = Place} (At (child p r)) (At v) = sym (at-kin e a) ∙ i in
          (Runs k, inr (k, m, cc t, refl), found-listed e k.ends (h.kin_names k m) b)

  -- what stands at no node is among the rest
  unlisted : (e : End) (a : Place) → place2 e ≡ a → ((v : Who) → a ≢ At v) → (lists e (kin_ends kin) ≡ false) × (lists e r2.ends ≡ false) × (rest e ≡ a)
  unlisted e a i n = elim (split (lists e (kin_ends kin))) [
    | inl k ↦ absurd (n (child p r) (sym i ∙ at-kin e k))
    | inr k ↦ elim (split (lists e r2.ends)) [
      | inl b ↦ absurd (n (Process p) (sym i ∙ at-own e b))
      | inr b ↦ (k, b, sym (at-other e k b) ∙ i)
    ]
  ]

  -- an end without partner stands nowhere
  nowhere-after : (e : End) → d.partner e ≡ None → place2 e ≡ Gone
  nowhere-after e i =
      at-other e (false_from_ne_true (lists e (kin_ends kin)) (λ a. alone (h.own_joined e (inl a)))) (false_from_ne_true (lists e r2.ends) (λ a. alone (h.own_joined e (inr a))))
      ∙ h.rest_nowhere e (elim (none-or (c.partner e)) [ inl n ↦ n | inr j ↦ absurd (alone (joined-on e j)) ]) i
    where
      alone : IsJoined d e → ⊥
      alone j = cc (i, j.1)

  -- what holds of both that are new
  each : (P : Running → Type 0) → P r2 → ((k : Running) → kin ≡ Some k → P k) → (v : Who) (s : Running) → IsNew v (Runs s) → P s
  each P own born v s (inl (i, j)) = let e : r2 ≡ s = cc j in subst P e own
  each P own born v s (inr (k, m, i, j)) = let e : k ≡ s = cc j in subst P e (born k m)

  serves-none : (v : Who) (a : Attending) → IsNew v (Serves a) → ⊥
  serves-none v a (inl (i, j)) = cc j
  serves-none v a (inr (k, m, i, j)) = cc j

  new-here : (v : Who) (s : State) → IsNew v s → d.nodes v ≡ Some s
  new-here v s (inl (i, j)) = ap d.nodes i ∙ (h.here ∙ ap Some (sym j))
  new-here v s (inr (k, m, i, j)) = ap d.nodes i ∙ (h.born k m ∙ ap Some (sym j))

  new-kinds : (v : Who) (s : State) → IsNew v s → IsOfKind v s
  new-kinds v s (inl (i, j)) = subst (λ z. IsOfKind z s) (sym i) (subst (λ z. IsOfKind (Process p) z) (sym j) tt)
  new-kinds v s (inr (k, m, i, j)) = subst (λ z. IsOfKind z s) (sym i) (subst (λ z. IsOfKind (child p r) z) (sym j) tt)

  local : IsNamed d → NoCycle (graph d place2) → IsLocal source c d l (Process p) IsNew from channel2 place2
  local named forest = record {
    here = new-here;
    others = h.others;
    whose = λ v s i. elim (h.whose v s i) [ inl a ↦ inl (inl a) | inr (inl a) ↦ inl (inr a) | inr (inr a) ↦ inr a ];
    nodes = h.finite.nodes;
    listed = h.finite.listed;
    ends = h.finite.ends;
    within = h.finite.joined;
    paired = h.paired;
    joined = λ e j n. joined-on e j;
    idle = h.idle;
    named = named;
    forest = forest;
    place = stays;
    channel = h.same_channel;
    own = own-at;
    at = stands;
    carrier = λ z e j i. let (a, b, k) = unlisted e (In z) i (λ v m. cc m) in h.rest_in z e j a b k;
    carried = λ z e i. elim (h.carried z e i) [ inl o ↦ inl o | inr (j, k, a, b) ↦ inr (at-other e a b ∙ k, j) ];
    gone = λ e j i.
        let (a, b, k) = unlisted e Gone i (λ v m. cc m) in
        elim (h.rest_gone e j a b k) [ inl n ↦ inl (inl n) | inr (o, g) ↦ inr (g, o) ];
    nowhere = nowhere-after;
    kinds = new-kinds;
    names = each (λ s. IsTrue (are_distinct (end_names s.ends))) h.names h.kin_names;
    once = λ v s x y e n. each (λ s. found x s.ends ≡ Some e → found y s.ends ≡ Some e → x ≡ y) (h.once x y e) (λ k m. h.kin_once k m x y e) v s n;
    typed = each (IsTypedAt (world_of source) channel2) h.typed h.kin_typed;
    types = λ v s x e n. each (λ s. found x s.ends ≡ Some e → (t : Channel) × (channel2 e ≡ Some t)) (h.types x e) (λ k m. h.kin_types k m x e) v s n;
    phases = λ v a n. absurd (serves-none v a n);
    shut = λ v a n. absurd (serves-none v a n);
    agree = h.agree;
    pairs = λ z a b before after i. elim (h.pairs z a b before after i) [
      | inl (o, n) ↦ inl (record { owed = o; untaken = n; partner = λ y j. let q : c.partner z ≡ Some y = partner-was z a b before after y o j in (q, h.pair_seen z a b y before after o n q) })
      | inr g ↦ inr g
    ];
  }

  -- the step keeps what is lawful
  pub lawful-after : IsNamed d → NoCycle (graph d place2) → Lawful source d
  lawful-after named forest = local-lawful source c d l (Process p) IsNew from channel2 place2 (local named forest)
