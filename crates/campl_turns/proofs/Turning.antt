-- One turn by number is the source's first reduction.
use Rattle.std.proofs.Common.{◌≡◌, ◌≢◌, ◌≤◌, ◌⊎◌, inl, inr, ℕ, suc, true, false, List, [], ◌∷◌, ◌++◌, Option, Some, None, IsSome, IfSome, map, option_map, if◌then◌else◌, eqb, eq-eqb, ne_eqb, refl, sym, ap, subst, ◌∙◌, le_refl}
use Rattle.campl_machine.specs.Names.{End, Path, Process, Who}
use Rattle.campl_machine.specs.Machine.{performs}
use Rattle.campl_types.specs.World.{World}
use Rattle.campl_meaning.specs.Reductions.{Configuration, Event, reduce, reduce_state}
use Rattle.campl_meaning.specs.OneAtATime.{is_before}
use Rattle.campl_meaning.specs.Ends.{MayReduce}
use Rattle.campl_meaning.specs.Journals.{NamesBoth, NamesChildren, Says}
use Rattle.campl_meaning.specs.States.{State}
use Rattle.campl_code.specs.Instructions.{Code}
use Rattle.campl_code_bodies.specs.Bodies as bodies
use Rattle.campl_code_bodies.specs.Alike.{OptionAlike, StandsState}
use Rattle.campl_code_bodies.specs.Commands.{CodeCommand, CodeState}
use Rattle.campl_code_bodies.specs.Running.{CodeConfiguration, IsEnough, ReduceAlike, children_of, event_of, reduce_code}
use Rattle.campl_code_bodies.proofs.Lifted.{reduces-alike}
use Rattle.campl_cells.specs.Parts.{Life, Parts, Proc, Tip, far, near, put, written}
use Rattle.campl_cells.specs.Wants as w
use Rattle.campl_cells.specs.Wants.{Drawn, Start, Want, wanted}
use Rattle.campl_cells.specs.Steps.{Entry, IsStill, Steps, after, child_number, goes_on, newborn, peopled}
use Rattle.campl_cells.specs.Steps as steps
use Rattle.campl_cells.specs.Stands.{Grows, IsEntryOf, IsFresh, Naming, StandsFor, StepsAlike, birth, named_channels, named_child, named_entry}
use Rattle.campl_cells.specs.Local.{IsEndOf}
use Rattle.campl_cells.specs.Runs.{Turn}
use Rattle.campl_cells.proofs.Alike.{ChildAs, FewChannels, WantAs}
use Rattle.campl_cells.proofs.Fresh.{IsDrawn}
use Rattle.campl_cells.proofs.GoingOn.{entry-of-step, same-event}
use Rattle.campl_cells.proofs.Puts.{is-there, not-free, put-else, put-here, same, split, written-keeps}
use Rattle.campl_cells.proofs.Renamed.{renamed}
use Rattle.campl_cells.proofs.Theorem.{step-alike}
use Rattle.campl_cells_laws.specs.Sources.{ReducesAs, Represents}
use Rattle.campl_cells_laws.proofs.Represented.{parts-step}
use Rattle.campl_turns.specs.Turns.{IsFirstTurn, Rests, told_entry, told_naming}
use Rattle.campl_turns.specs.Meaning.{IsChildOf, Means}
use Rattle.campl_turns.proofs.Acting.{Acting, acting}
use Rattle.campl_turns.proofs.Told.{Borne, Stays, between, says-channels, says-child, says-end, says-message}
use Rattle.campl_turns.proofs.Uses.{Tells, born-in-use, channels_of, few-born, start_of, tells, was-in-use}

-- The first

module _ (w : World) (code : Code) (n : Naming) (m : Parts) (c : Configuration) (standing : bodies.StandsFor w code) (z : Represents w code n m c) where
  -- who has no step by number has no reduction
  pub still-none : (d : Drawn) → IsFresh d m → (p : ℕ) → IsSome (m.process p) → (i : ℕ) → IsStill code d m p i → reduce w c (n.who p) i ≡ None
  still-none d fresh p there i still = go (m.process p) refl there
    where
      none : (q : Proc) (r : Option (Event × Configuration)) → ReducesAs w code n d m p q r None → r ≡ None
      none q None a = refl
      none q (Some r) a = absurd a

      go : (o : Option Proc) → m.process p ≡ o → IsSome o → reduce w c (n.who p) i ≡ None
      go None e h = absurd (cc h)
      go (Some q) e h = none q (reduce w c (n.who p) i) (subst (ReducesAs w code n d m p q (reduce w c (n.who p) i)) (still q e) (parts-step w code n m c standing z d fresh p q e i))

  -- at a name that no number has nobody reduces
  pub nobody-none : (v : Who) → ((p : ℕ) → IsSome (m.process p) → n.who p ≢ v) → (i : ℕ) → reduce w c v i ≡ None
  nobody-none v nobody i =
      let gone : z.between.nodes v ≡ None = z.by_number.shows.no_node v nobody in
      ap (reduce_state w c v i) (none (c.nodes v) (subst (λ o. OptionAlike (StandsState w code) o (c.nodes v)) gone (z.by_terms.nodes v)))
    where
      none : (o : Option State) → OptionAlike (StandsState w code) None o → o ≡ None
      none None a = refl
      none (Some s) a = absurd a

  -- who may reduce isn't before the first
  pub first-of-all : (d : Drawn) → IsFresh d m → (who : Who) → ((p : ℕ) → is_before (n.who p) who ≡ true → Rests code m p) → (v : Who) → MayReduce w c v → is_before v who ≡ false
  first-of-all d fresh who first v (i, next, e) = elim (split (is_before v who)) [
    | inr h ↦ h
    | inl h ↦
        let none : reduce w c v i ≡ None =
        nobody-none v (λ p there same.
        let rests : reduce w c (n.who p) i ≡ None = still-none d fresh p there i (first p (ap (λ x. is_before x who) same ∙ h) d i) in
        let f : None ≡ Some next = sym rests ∙ (ap (λ x. reduce w c x i) same ∙ e) in
        let x : ⊥ = cc f in x) i in
        let f : None ≡ Some next = sym none ∙ e in
        absurd (cc f)
  ]

-- Names that stay, but for what is drawn

abbrev drawn_end : Drawn → (f g : ℕ → End) → ℕ → End
drawn_end d f g k =
    if eqb (near d.channel) k then f k else if eqb (far d.channel) k then f k else if eqb (near d.channel2) k then f k else if eqb (far d.channel2) k then f k else g k

drawn-end : (d : Drawn) (f g : ℕ → End) (k : ℕ) → (IsDrawn d k × (drawn_end d f g k ≡ f k)) ⊎ ((IsDrawn d k → ⊥) × (drawn_end d f g k ≡ g k))
drawn-end d f g k = elim (same (near d.channel) k) [
  | inl a ↦ inl (inl a, rw (eq-eqb (near d.channel) k a) refl)
  | inr a ↦ elim (same (far d.channel) k) [
    | inl b ↦ inl (inr (inl b), rw (ne_eqb (near d.channel) k a, eq-eqb (far d.channel) k b) refl)
    | inr b ↦ elim (same (near d.channel2) k) [
      | inl a2 ↦ inl (inr (inr (inl a2)), rw (ne_eqb (near d.channel) k a, ne_eqb (far d.channel) k b, eq-eqb (near d.channel2) k a2) refl)
      | inr a2 ↦ elim (same (far d.channel2) k) [
        | inl b2 ↦ inl (inr (inr (inr b2)), rw (ne_eqb (near d.channel) k a, ne_eqb (far d.channel) k b, ne_eqb (near d.channel2) k a2, eq-eqb (far d.channel2) k b2) refl)
        | inr b2 ↦ inr (
          (λ h. elim h [ inl e ↦ a e | inr h ↦ elim h [ inl e ↦ b e | inr h ↦ elim h [ inl e ↦ a2 e | inr e ↦ b2 e ] ] ]),
          rw (ne_eqb (near d.channel) k a, ne_eqb (far d.channel) k b, ne_eqb (near d.channel2) k a2, ne_eqb (far d.channel2) k b2) refl,
        )
      ]
    ]
  ]
]

of-drawn : (d : Drawn) (f g : ℕ → End) (k : ℕ) → IsDrawn d k → drawn_end d f g k ≡ f k
of-drawn d f g k h = elim (drawn-end d f g k) [ inl a ↦ a.1 | inr a ↦ absurd (a.0 h) ]

abbrev few_names : Drawn → (n n2 : Naming) → Naming
few_names d n n2 = record { who = n2.who; end = drawn_end d n2.end n.end }

few-stays : (n n2 : Naming) (m : Parts) (d : Drawn) → Grows n n2 m → Stays n (few_names d n n2) m d
few-stays n n2 m d g = record {
  grows = record {
    who = g.who;
    end = λ k h. elim (drawn-end d n2.end n.end k) [ inl a ↦ a.1 ∙ g.end k h | inr a ↦ a.1 ];
  };
  others = λ k h. elim (drawn-end d n2.end n.end k) [ inl a ↦ absurd (h a.0) | inr a ↦ a.1 ];
}

end-drawn : (d : Drawn) (cs : List ℕ) → FewChannels d cs → (k : ℕ) → IsEndOf cs k → IsDrawn d k
end-drawn d [] few k h = absurd h
end-drawn d (a ∷ []) few k h = elim h [
  | inl e ↦ inl (ap near (sym few) ∙ e)
  | inr h ↦ elim h [ inl e ↦ inr (inl (ap far (sym few) ∙ e)) | inr h ↦ absurd h ]
]
end-drawn d (a ∷ b ∷ []) few k h = elim h [
  | inl e ↦ inl (ap near (sym few.0) ∙ e)
  | inr h ↦ elim h [
    | inl e ↦ inr (inl (ap far (sym few.0) ∙ e))
    | inr h ↦ elim h [
      | inl e ↦ inr (inr (inl (ap near (sym few.1) ∙ e)))
      | inr h ↦ elim h [ inl e ↦ inr (inr (inr (ap far (sym few.1) ∙ e))) | inr h ↦ absurd h ]
    ]
  ]
]
end-drawn d (a ∷ b ∷ x ∷ cs) few k h = absurd few

few-grows : (n n2 : Naming) (m m2 : Parts) (d : Drawn) (cs : List ℕ) → Grows n n2 m → Borne m m2 d cs → Grows n2 (few_names d n n2) m2
few-grows n n2 m m2 d cs g b = record {
  who = λ i h. refl;
  end = λ k h. elim (b.was k h) [
    | inl old ↦ elim (drawn-end d n2.end n.end k) [ inl a ↦ a.1 | inr a ↦ a.1 ∙ sym (g.end k old) ]
    | inr new ↦ of-drawn d n2.end n.end k (end-drawn d cs b.few k new)
  ];
}

-- The child

abbrev reduces : CodeConfiguration → CodeCommand → CodeConfiguration → Event × CodeConfiguration
reduces c x d = (event_of c x, d)

children-told : (c : CodeConfiguration) (x : CodeCommand) (o : Option CodeConfiguration) (r : Event × CodeConfiguration) → option_map (λ d. (event_of c x, d)) o ≡ Some r → r.0 ≡ event_of c x
children-told c x None r e = absurd (cc e)
children-told c x (Some d) r e = let f : r ≡ reduces c x d = cc e in ap (λ (y : Event × CodeConfiguration). y.0) f

-- the child of a command has the name that its number has
child-named : (code : Code) (n n2 : Naming) (tip : ℕ → Option Tip) (d : Drawn) (who : Who) (count : ℕ) (o : Want) (x : CodeCommand) → WantAs code n tip d who count o x →
    named_child n2 (child_number d (start_of o)) ≡ children_of x.act → (k : ℕ) → child_number d (start_of o) ≡ Some k → n2.who k ≡ n.who d.child
child-named code n n2 tip d who count w.Rests x a e k q = absurd (cc q)
child-named code n n2 tip d who count (w.Looks kind takes y f) x a e k q = absurd (cc q)
child-named code n n2 tip d who count (w.Links y z) x a e k q = absurd (cc q)
child-named code n n2 tip d who count (w.Moves kind end v) x a e k q = go _ v.child a.children a.bears (e ∙ ap (λ (x : CodeCommand). children_of x.act) a.is) q
  where
    go : (There : ℕ → Type 0) (s : Option Start) (children : List (Who × CodeState)) → ChildAs code n There d s children → named_child n2 (child_number d s) ≡ map (λ child. child.0) children →
        child_number d s ≡ Some k → n2.who k ≡ n.who d.child
    go There None children b e q = absurd (cc q)
    go There (Some s) [] b e q = absurd b
    go There (Some s) (y ∷ []) b e q =
        let number : d.child ≡ k = cc q in
        let name : n2.who d.child ≡ y.0 = cc e in
        ap n2.who (sym number) ∙ (name ∙ b.0)
    go There (Some s) (y ∷ y2 ∷ ys) b e q = absurd b

own-part : (d : Drawn) (m : Parts) → IsFresh d m → (p : ℕ) (q : Proc) → m.process p ≡ Some q → (life : Life) (child : Option Life) → written (peopled d p q life child) m.process p ≡ Some (goes_on q life)
own-part d m fresh p q there life None = put-here p (Some (goes_on q life)) m.process
own-part d m fresh p q there life (Some x) =
    put-else d.child p (Some (newborn p q x)) (put p (Some (goes_on q life)) m.process) (not-free m.process d.child p fresh.child (is-there (m.process p) q there)) ∙ put-here p (Some (goes_on q life)) m.process

-- The turn

module _ (w : World) (code : Code) (n : Naming) (m : Parts) (c : Configuration) (standing : bodies.StandsFor w code) (z : Represents w code n m c)
    (t : Turn) (entry : Entry) (m2 : Parts) (turn : IsFirstTurn code n.who m t entry m2) where
  abbrev s : Steps code t.drawn m t.process t.branch entry m2
  s = turn.steps

  abbrev d : Drawn
  d = t.drawn

  abbrev p : ℕ
  p = t.process

  abbrev q : Proc
  q = s.process

  abbrev want : Want
  want = wanted code d q.life t.branch

  abbrev behind : Parts
  behind = after d m p q s.change s.life s.child

  there : IsSome (m.process p)
  there = is-there (m.process p) q s.there

  tell : Tells p d want s.change
  tell = tells m.tip d p want s.change s.changes

  entry-there : IsEntryOf behind s.change.entry
  entry-there = entry-of-step code n m z.between z.by_number d turn.fresh p t.branch s.change.entry behind
      (record { process = q; there = s.there; change = s.change; changes = s.changes; named = refl; life = s.life; child = s.child; lives = s.lives; bears = s.bears; parts = refl })

  module _ (k : ℕ) (enough : IsEnough code k (z.between.nodes (n.who p))) (a : Acting code n m z.between d p q t.branch k) where
    borne : Borne m behind d (channels_of want)
    borne = record {
      few = few-born code a.naming m.tip d (a.naming.who p) q.steps want a.command a.wants;
      keeps = λ k h. written-keeps s.change.ends m.tip k h;
      was = was-in-use code n m z.between z.by_number d a.naming (a.naming.who p) p q.steps want a.command s.change a.wants s.changes;
      there = born-in-use m.tip d p want s.change s.changes;
    }

    says : (n2 : Naming) → Stays n n2 m d → Says (told_naming n m) (told_entry s.change.entry) (n.who p) (named_entry n2 s.change.entry) (told_naming n2 behind)
    says n2 stays = record {
      kind = refl;
      process = ap (λ i. option_map (λ x. n.who i) (m.process i)) tell.process ∙ ap (option_map (λ x. n.who p)) s.there;
      between = between n n2 m behind d turn.fresh stays;
      child = subst (λ o. NamesChildren (told_naming n m) o (named_child n2 o) (between n n2 m behind d turn.fresh stays)) (sym tell.child)
          (says-child code n n2 m d turn.fresh stays.grows p q s.there s.life s.change.child s.child s.bears);
      channels = subst (λ o. NamesBoth (between n n2 m behind d turn.fresh stays) o s.change.entry.channel2 (named_channels n2 o s.change.entry.channel2) (told_naming n2 behind)) (sym tell.channel)
          (subst (λ o. NamesBoth (between n n2 m behind d turn.fresh stays) (steps.first_of (channels_of want)) o (named_channels n2 (steps.first_of (channels_of want)) o) (told_naming n2 behind)) (sym tell.channel2)
          (says-channels n n2 m behind d turn.fresh stays (channels_of want) borne));
      end = says-end n2 behind s.change.entry.end entry-there.end;
      second = says-end n2 behind s.change.entry.second entry-there.second;
      message = says-message n2 behind s.change.entry.message entry-there.message;
    }

    module _ (r : Event × CodeConfiguration) (reduced : reduce_code code k z.between (n.who p) t.branch ≡ Some r) (r2 : Event × Configuration) (reduced2 : reduce w c (n.who p) t.branch ≡ Some r2)
        (alike : ReduceAlike w code (Some r) (Some r2)) (step : StepsAlike code n d m p q (Some r) (Some s.change)) where
      abbrev n2 : Naming
      n2 = step.0

      abbrev n3 : Naming
      n3 = few_names d n n2

      grows23 : Grows n2 n3 behind
      grows23 = few-grows n n2 m behind d (channels_of want) step.1 borne

      event : r2.0 ≡ named_entry n3 s.change.entry
      event = sym alike.0 ∙ (step.2 ∙ sym (same-event n2 n3 behind grows23 s.change.entry entry-there))

      stands : StandsFor code n3 behind r.1
      stands = renamed code n2 n3 behind r.1 (step.3 s.life s.child s.lives s.bears) grows23

      child-name : (x : ℕ) → s.change.entry.child ≡ Some x → (path : Path) → n.who p ≡ Process path → n2.who x ≡ Process (path ++ birth (suc q.steps) ∷ [])
      child-name x e path named =
          let number : s.change.entry.child ≡ child_number d (start_of want) = tell.child ∙ ap (child_number d) tell.start in
          let told : r.0 ≡ event_of z.between a.command = children-told z.between a.command (performs z.between (n.who p) a.command.act) r (sym a.reduces ∙ reduced) in
          let children : named_child n2 (child_number d (start_of want)) ≡ children_of a.command.act =
          ap (named_child n2) (sym number) ∙ (ap (λ (v : Event). v.children) (sym step.2) ∙ ap (λ (v : Event). v.children) told) in
          child-named code a.naming n2 m.tip d (a.naming.who p) q.steps want a.command a.wants children x (sym number ∙ e) ∙ a.child path named

      -- the child's name, and that it's its own
      is-child : (x : ℕ) → s.change.entry.child ≡ Some x → IsChildOf n3 behind p x
      is-child x e = record {
        named = λ q2 at path named.
            let own : goes_on q s.life ≡ q2 = (let f : Some (goes_on q s.life) ≡ Some q2 = sym (own-part d m turn.fresh p q s.there s.life s.child) ∙ at in cc f) in
            let count : suc q.steps ≡ q2.steps = ap (λ (q : Proc). q.steps) own in
            child-name x e path (sym (step.1.who p there) ∙ named) ∙ ap (λ k. Process (path ++ birth k ∷ [])) count;
        alone = λ i h ne same.
            let here : IsSome (behind.process x) = subst (λ o. IfSome o (λ i. IsSome (behind.process i))) e entry-there.child in
            ne (stands.named.processes i x h here same);
      }

      means : Means w code n m c t s.change.entry behind
      means = record {
        naming = n3;
        next = r2.1;
        grows = (few-stays n n2 m d step.1).grows;
        first = record {
          reduces = reduced2 ∙ ap (λ e. Some (e, r2.1)) event;
          first = first-of-all w code n m c standing z d turn.fresh (n.who p) turn.first;
          ready = λ i h. still-none w code n m c standing z d turn.fresh p there i (turn.ready i h);
        };
        represents = record { between = r.1; by_number = stands; by_terms = alike.1 };
        says = says n3 (few-stays n n2 m d step.1);
        weighed = (subst (λ k. 1 ≤ k) (sym tell.weight) (le_refl 1), inr tell.weight);
        child = is-child;
      }

  -- one turn by number
  pub turns : Means w code n m c t entry m2
  turns =
      let r = reduces-alike w code standing z.between c z.by_terms (n.who p) t.branch in
      let a = acting code n m z.between z.by_number d turn.fresh p q s.there t.branch r.0 r.1.0 s.change s.changes in
      let step : StepsAlike code n d m p q (reduce_code code r.0 z.between (n.who p) t.branch) (Some s.change) =
      subst (StepsAlike code n d m p q (reduce_code code r.0 z.between (n.who p) t.branch)) s.changes (step-alike code n m z.between z.by_number d turn.fresh p q s.there t.branch r.0 r.1.0) in
      subst (λ m2. Means w code n m c t entry m2) (sym s.parts) (subst (λ e. Means w code n m c t e behind) (sym s.named)
      (go r.0 r.1.0 a (reduce_code code r.0 z.between (n.who p) t.branch) refl (reduce w c (n.who p) t.branch) refl r.1.1 step))
    where
      go : (k : ℕ) (enough : IsEnough code k (z.between.nodes (n.who p))) → Acting code n m z.between d p q t.branch k →
          (o : Option (Event × CodeConfiguration)) → reduce_code code k z.between (n.who p) t.branch ≡ o → (o2 : Option (Event × Configuration)) → reduce w c (n.who p) t.branch ≡ o2 →
          ReduceAlike w code o o2 → StepsAlike code n d m p q o (Some s.change) → Means w code n m c t s.change.entry behind
      go k enough a None e o2 e2 alike step = absurd step
      go k enough a (Some r) e None e2 alike step = absurd alike
      go k enough a (Some r) e (Some r2) e2 alike step = means k enough a r e r2 e2 alike step
