-- A split: what the process holds behind it, and what partners agree on.
use Rattle.std.proofs.Common.{◌≡◌, ◌≢◌, ◌⊎◌, ◌∙◌, inl, inr, refl, sym, ap, subst, true, false, true≢false, [], ◌∷◌, Some, None}
use Rattle.campl_machine.specs.Names.{End, Process}
use Rattle.campl_machine.proofs.Same.{same_end-refl}
use Rattle.campl_machine.proofs.Updates.{split}
use Rattle.campl_machine.proofs.Ends.{apart, ne, same-end}
use Rattle.campl_types.specs.World.{world_of}
use Rattle.campl_types.specs.Names.{Name, same_name, found}
use Rattle.campl_types.specs.SameType.{bare_chan}
use Rattle.campl_types.specs.Polarity.{Splits}
use Rattle.campl_types.specs.Held.{Channel, On, with, without}
use Rattle.campl_types.specs.Linear.{IsWellFormed}
use Rattle.campl_types.specs.Views.{View, Nothing, turned, deed_of, side_of}
use Rattle.campl_types.proofs.Names.{same-is, same-itself, same-turned}
use Rattle.campl_peel.specs.Terms.{held_ends}
use Rattle.campl_meaning.specs.States.{EndPair, Running}
use Rattle.campl_meaning.specs.Bodies.{without_end}
use Rattle.campl_meaning.specs.Reductions.{Configuration}
use Rattle.campl_meaning.specs.Views.{view_in, view_of, TakesAll, taken_at}
use Rattle.campl_meaning.specs.Apart.{Place, At, In, Gone, IsCarried, IsJoined}
use Rattle.campl_meaning.specs.Lawful.{Channels, seen, IsTypedAt, Agree}
use Rattle.campl_meaning.proofs.Agreeing.{agree-turned}
use Rattle.campl_peel.proofs.Peeling.{none-or}
use Rattle.campl_frame.proofs.Listed.{some-is, lists, lists-found, found-listed, IsTidy, found-more, found-without, still-without, lists-first, lists-more, lists-later, tidy-more, tidy-without}
use Rattle.campl_frame.proofs.Held.{held-of, held-more, held-without, own-place, own-found}
use Rattle.campl_frame.proofs.Stays.{agree-same}
use Rattle.campl_kept_births.proofs.SplitEnds.{Splitting}
use Rattle.campl_kept_births.proofs.SplitEnds.{r2 as r2_of, d as d_of, channel2 as channel2_of, remains as remains_of, at-split, back, tidy, a-place, o-place, a-o, end-other, channel-end, channel-a, channel-o, channel-old, end-view, seen-other, owed-other, owed-old}

module _ (it : Splitting) where
  open it use {source, c, l, p, r, there, x, y, z, rest, end, other, a, o, side, u, t, w, x_is, joined, owes, is_on, splits, new, trees, good}

  abbrev r2 : Running
  r2 = r2_of it

  abbrev d : Configuration
  d = d_of it

  abbrev channel2 : Channels
  channel2 = channel2_of it

  abbrev remains : End → Place
  remains = remains_of it

  -- What is held

  free-name : (n : Name) → without x (held_ends l.channel r.ends) n ≡ None → found n (without_end x r.ends) ≡ None
  free-name n i = elim (none-or (found n (without_end x r.ends))) [
    | inl j ↦ j
    | inr (e, f) ↦
        let g : (same_name x n ≡ false) × (found n r.ends ≡ Some e) = found-without x r.ends n e f in
        let ch : (ch : Channel) × (l.channel e ≡ Some ch) = l.has_type p e (r, n, there, g.1) in
        let h : held_ends l.channel r.ends n ≡ Some ch.0 = held-of l.channel r.ends n e ch.0 g.1 ch.1 in
        let m : without x (held_ends l.channel r.ends) n ≡ Some ch.0 = rw g.0 h in
        absurd (let no : None ≡ Some ch.0 = sym i ∙ m in cc no)
  ]

  not-held : (e : End) → l.place e ≡ In other → (n : Name) → found n r.ends ≢ Some e
  not-held e i n f = let j : l.place e ≡ At (Process p) = (own-place source c l p r there n e f).0 in cc (i, j)

  tidy-one : IsTidy ((y, a) ∷ without_end x r.ends)
  tidy-one = tidy-more y a (without_end x r.ends) (tidy-without x r.ends (tidy it)) (free-name y new.0) (λ n f. not-held a (a-place it).0 n (found-without x r.ends n a f).1)

  no-z : found z ((y, a) ∷ without_end x r.ends) ≡ None
  no-z = rw (same-turned z y ∙ new.2) (free-name z new.1)

  pub tidy-both : IsTidy r2.ends
  tidy-both = tidy-more z o ((y, a) ∷ without_end x r.ends) tidy-one no-z (λ n f. elim (found-more y a (without_end x r.ends) n o f) [
    | inl (i, j) ↦ a-o it (sym j)
    | inr g ↦ not-held o (o-place it).0 n (found-without x r.ends n o g).1
  ])

  pub in-own : (e : End) → lists e r2.ends ≡ true → (e ≡ o) ⊎ ((e ≡ a) ⊎ ((n : Name) × (same_name x n ≡ false) × (found n r.ends ≡ Some e)))
  in-own e i = elim (lists-more z o ((y, a) ∷ without_end x r.ends) e i) [
    | inl j ↦ inl j
    | inr j ↦ elim (lists-more y a (without_end x r.ends) e j) [
      | inl m ↦ inr (inl m)
      | inr m ↦
          let (n, f) = found-listed e (without_end x r.ends) (tidy-without x r.ends (tidy it)).names m in
          let g : (same_name x n ≡ false) × (found n r.ends ≡ Some e) = found-without x r.ends n e f in
          inr (inr (n, g.0, g.1))
    ]
  ]

  pub has-a : lists a r2.ends ≡ true
  has-a = lists-later z o ((y, a) ∷ without_end x r.ends) a (lists-first y a (without_end x r.ends))

  pub has-o : lists o r2.ends ≡ true
  has-o = lists-first z o ((y, a) ∷ without_end x r.ends)

  kept : (e : End) (n : Name) → found n r.ends ≡ Some e → (e ≡ end) ⊎ (lists e r2.ends ≡ true)
  kept e n f = elim (split (same_name x n)) [
    | inl s ↦ let g : found x r.ends ≡ Some e = subst (λ m. found m r.ends ≡ Some e) (sym (same-is x n s)) f in inl (some-is e end (sym g ∙ x_is))
    | inr s ↦ inr (lists-later z o ((y, a) ∷ without_end x r.ends) e (lists-later y a (without_end x r.ends) e (lists-found e (without_end x r.ends) n (still-without x r.ends n e s f))))
  ]

  pub all-kept : (e : End) → IsJoined c e → end ≢ e → l.place e ≡ At (Process p) → lists e r2.ends ≡ false → ⊥
  all-kept e j n i m =
      let (k, f) = own-found source c l p r there e j i in
      elim (kept e k f) [
        | inl g ↦ n (sym g)
        | inr g ↦ true≢false (sym g ∙ m)
      ]

  pub not-end : (e : End) (n : Name) → same_name x n ≡ false → found n r.ends ≡ Some e → end ≢ e
  not-end e n s f i =
      let g : x ≡ n = (tidy it).once x n end x_is (f ∙ ap Some (sym i)) in
      true≢false (sym (subst (λ m. same_name x m ≡ true) g (same-itself x)) ∙ s)

  pub own-joined : (e : End) → lists e r2.ends ≡ true → IsJoined c e
  own-joined e i = elim (in-own e i) [
    | inl j ↦ subst (IsJoined c) (sym j) (o-place it).1
    | inr (inl j) ↦ subst (IsJoined c) (sym j) (a-place it).1
    | inr (inr (n, s, f)) ↦ (own-place source c l p r there n e f).1
  ]

  pub own-free : (e : End) → lists e r2.ends ≡ true → (l.place e ≡ At (Process p)) ⊎ (l.place e ≡ In other)
  own-free e i = elim (in-own e i) [
    | inl j ↦ inr (subst (λ m. l.place m ≡ In other) (sym j) (o-place it).0)
    | inr (inl j) ↦ inr (subst (λ m. l.place m ≡ In other) (sym j) (a-place it).0)
    | inr (inr (n, s, f)) ↦ inl (own-place source c l p r there n e f).0
  ]

  -- an end in the (pair it) is a or o
  pub carried-other : (e : End) → l.place e ≡ In other → IsJoined c e → (e ≡ a) ⊎ (e ≡ o)
  carried-other e i j = go (subst (λ m. IsCarried m e) owes (l.apart.placed.carrier other e j i))
    where
      go : (e ≡ a) ⊎ ((e ≡ o) ⊎ ⊥) → (e ≡ a) ⊎ (e ≡ o)
      go (inl m) = inl m
      go (inr (inl m)) = inr m
      go (inr (inr m)) = absurd m

  pub remains-end : remains end ≡ Gone
  remains-end = rw (same_end-refl end) refl

  pub remains-old : (e : End) → end ≢ e → remains e ≡ l.place e
  remains-old e n = rw (apart end e n) refl

  -- Types

  pub same-ends : (n : Name) (e : End) → same_name x n ≡ false → found n r.ends ≡ Some e → channel2 e ≡ l.channel e
  same-ends n e s f =
      let i : l.place e ≡ At (Process p) = (own-place source c l p r there n e f).0 in
      channel-old it e (not-end e n s f) (λ j. let k : l.place e ≡ In other = subst (λ m. l.place m ≡ In other) j (a-place it).0 in cc (i, k))
      (λ j. let k : l.place e ≡ In other = subst (λ m. l.place m ≡ In other) j (o-place it).0 in cc (i, k))

  pub typed : IsTypedAt (world_of source) channel2 r2
  typed = record {
    vars = (l.typed p r there).vars;
    bound = (l.typed p r there).bound;
    term =
        let base : held_ends channel2 (without_end x r.ends) ≡ without x (held_ends l.channel r.ends) = held-without l.channel channel2 x r.ends same-ends in
        let one : held_ends channel2 ((y, a) ∷ without_end x r.ends) ≡ with y (Some (On side t)) (without x (held_ends l.channel r.ends)) =
        held-more channel2 y a (without_end x r.ends) (Some (On side t)) (without x (held_ends l.channel r.ends)) (channel-a it) base in
        let two : held_ends channel2 r2.ends ≡ with z (Some (On side w)) (with y (Some (On side t)) (without x (held_ends l.channel r.ends))) =
        held-more channel2 z o ((y, a) ∷ without_end x r.ends) (Some (On side w)) (with y (Some (On side t)) (without x (held_ends l.channel r.ends))) (channel-o it) one in
        (subst (λ h. IsWellFormed (world_of source) (l.typed p r there).vars h rest) (sym two) good, trees);
  }

  -- Part 3

  nothing-left : (v : View) (left : View) → v ≡ view_of side u → TakesAll (world_of source) v (EndPair a o ∷ []) left → left ≡ Nothing
  nothing-left v left i (next, k, j) =
      let m : taken_at (world_of source) (side_of v) (Splits (bare_chan t) (bare_chan w)) (EndPair a o) next =
      subst (λ q. taken_at (world_of source) (side_of v) q (EndPair a o) next) (ap (deed_of (world_of source)) i ∙ (at-split it).view) k in
      sym j ∙ m

  agree-end : Agree (world_of source) d channel2 end other
  agree-end =
      let g : Agree (world_of source) c l.channel end other = l.agree end other joined in
      let n : g.left ≡ Nothing = nothing-left (seen l.channel end) g.left (end-view it) (subst (λ m. TakesAll (world_of source) (seen l.channel end) m g.left) owes g.mine) in
      record {
        left = Nothing;
        mine = subst (λ m. TakesAll (world_of source) (seen channel2 end) m Nothing) (sym (owed-other it)) (ap view_in (channel-end it));
        yours = subst (λ m. TakesAll (world_of source) (seen channel2 other) m Nothing) (sym (owed-old it end (ne end other (end-other it))))
            (subst (λ q. TakesAll (world_of source) q (c.owed end) Nothing) (sym (seen-other it other (end-other it)))
            (subst (λ q. TakesAll (world_of source) (seen l.channel other) (c.owed end) (turned q)) n g.yours));
      }

  pub agree : (e f : End) → d.partner e ≡ Some f → Agree (world_of source) d channel2 e f
  agree e f i = elim (same-end e end) [
    | inl j ↦
        let m : Some other ≡ Some f = sym joined ∙ subst (λ q. c.partner q ≡ Some f) j i in
        subst (λ q. Agree (world_of source) d channel2 q f) (sym j) (subst (λ q. Agree (world_of source) d channel2 end q) (some-is other f m) agree-end)
    | inr n ↦ elim (same-end e other) [
      | inl j ↦
          let m : Some end ≡ Some f = sym (back it) ∙ subst (λ q. c.partner q ≡ Some f) j i in
          subst (λ q. Agree (world_of source) d channel2 q f) (sym j) (subst (λ q. Agree (world_of source) d channel2 other q) (some-is end f m) (agree-turned (world_of source) d channel2 end other agree-end))
      | inr m ↦
          let bf : c.partner f ≡ Some e = l.apart.placed.paired.back e f i in
          let fn : end ≢ f = λ q. m (some-is e other (sym bf ∙ (ap c.partner (sym q) ∙ joined))) in
          let fm : other ≢ f = λ q. n (some-is e end (sym bf ∙ (ap c.partner (sym q) ∙ back it))) in
          agree-same (world_of source) c d l.channel channel2 e f (seen-other it e (ne e end n)) (seen-other it f fn) (owed-old it e (ne e other m)) (owed-old it f fm) (l.agree e f i)
    ]
  ]
