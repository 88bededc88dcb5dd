-- A fork: types, what partners agree on, and the pair that is sent.
use Rattle.std.proofs.Common.{◌≡◌, ◌≢◌, ◌⊎◌, ◌∙◌, inl, inr, refl, sym, ap, subst, Bool, true, false, true≢false, List, [], ◌∷◌, ◌++◌, Some, None}
use Rattle.campl_machine.specs.Names.{First, Second, End, Process}
use Rattle.campl_machine.proofs.Ends.{ne, same-end}
use Rattle.campl_types.specs.World.{world_of}
use Rattle.campl_types.specs.Names.{Name, same_name, found}
use Rattle.campl_types.specs.SameType.{bare_chan}
use Rattle.campl_types.specs.Held.{Channel, On, with, without, only}
use Rattle.campl_types.specs.Linear.{IsWellFormed}
use Rattle.campl_types.specs.Views.{Nothing, turned, side_of}
use Rattle.campl_peel.specs.Terms.{those, held_ends}
use Rattle.campl_meaning.specs.States.{Message, EndPair, Ends, Running}
use Rattle.campl_meaning.specs.Reductions.{Configuration}
use Rattle.campl_meaning.specs.Views.{view_in, view_of, Takes, TakesAll, taken_at}
use Rattle.campl_meaning.specs.Apart.{Place, Gone, IsCarried, owes_pair}
use Rattle.campl_meaning.specs.Lawful.{Channels, seen, IsTypedAt, IsPairOf, Agree}
use Rattle.campl_meaning.proofs.Agreeing.{agree-turned}
use Rattle.campl_meaning.proofs.Pairs.{carried-owes}
use Rattle.campl_peel.proofs.Terms.{ends-with}
use Rattle.campl_frame.proofs.Listed.{some-is, found-more}
use Rattle.campl_frame.proofs.Leaving.{no-pair}
use Rattle.campl_kept_births.proofs.Sent.{IsTheLast, one-pair}
use Rattle.campl_frame.specs.Frame.{IsGoodPair}
use Rattle.campl_frame.proofs.Stays.{takes-more, agree-same}
use Rattle.campl_kept_births.proofs.Hands.{settled}
use Rattle.campl_kept_births.proofs.Newborn.{new-agree}
use Rattle.campl_frame.proofs.Held.{held-without, own-place}
use Rattle.campl_types.proofs.Bare.{bare-chan-twice}
use Rattle.campl_kept_births.proofs.ForkEnds.{Forking}
use Rattle.campl_kept_births.proofs.ForkEnds.{a1 as a1_of, a2 as a2_of, b1 as b1_of, b2 as b2_of, base as base_of, drop as drop_of, r2 as r2_of, r3 as r3_of, d as d_of, channel2 as channel2_of, remains as remains_of, at-fork, a2-b2, which, old, back, end-other, partner-a1, partner-a2, partner-b1, partner-b2, partner-old, wired, channel-end, channel-a1, channel-a2, channel-b1, channel-b2, channel-old, seen-old, owed-end, owed-old, owed-new, remains-end}
use Rattle.campl_kept_births.proofs.ForkHeld.{end-place, in-base, not-end, end-unlisted}

module _ (it : Forking) where
  open it use {source, c, l, p, r, there, x, y, z, one, two, keep, end, other, side, u, t, w, x_is, joined, is_on, forks, new, trees, good, good_too}

  abbrev a1 : End
  a1 = a1_of it

  abbrev a2 : End
  a2 = a2_of it

  abbrev b1 : End
  b1 = b1_of it

  abbrev b2 : End
  b2 = b2_of it

  abbrev base : Ends
  base = base_of it

  abbrev drop : Name → Bool
  drop = drop_of it

  abbrev r2 : Running
  r2 = r2_of it

  abbrev r3 : Running
  r3 = r3_of it

  abbrev d : Configuration
  d = d_of it

  abbrev channel2 : Channels
  channel2 = channel2_of it

  abbrev remains : End → Place
  remains = remains_of it

  -- Types

  same-ends : (n : Name) (e : End) → same_name x n ≡ false → found n r.ends ≡ Some e → channel2 e ≡ l.channel e
  same-ends n e s f = channel-old it e (not-end it e n s f) (old it e (own-place source c l p r there n e f).1)

  base-held : held_ends channel2 base ≡ without x (held_ends l.channel r.ends)
  base-held = held-without l.channel channel2 x r.ends same-ends

  pub each-of : (test : Name → Bool) (v : Name) (m : End) (ch : Channel) → channel2 m ≡ Some ch → (n : Name) (e : End) → found n ((v, m) ∷ those test base) ≡ Some e → (q : Channel) × (channel2 e ≡ Some q)
  each-of test v m ch i n e f = elim (found-more v m (those test base) n e f) [
    | inl (h, j) ↦ (ch, ap channel2 j ∙ i)
    | inr g ↦
        let k : (test n ≡ true) × (same_name x n ≡ false) × (found n r.ends ≡ Some e) = in-base it test n e g in
        let q : (q : Channel) × (l.channel e ≡ Some q) = l.has_type p e (r, n, there, k.2) in
        (q.0, same-ends n e k.1 k.2 ∙ q.1)
  ]

  pub typed-mine : IsTypedAt (world_of source) channel2 r2
  typed-mine = record {
    vars = (l.typed p r there).vars;
    bound = (l.typed p r there).bound;
    term =
        let same : held_ends channel2 r2.ends ≡ with y (Some (On side t)) (only keep (without x (held_ends l.channel r.ends))) =
        ends-with channel2 keep y a1 base
        ∙ (ap (λ q. with y q (only keep (held_ends channel2 base))) (channel-a1 it) ∙ ap (λ q. with y (Some (On side t)) (only keep q)) base-held) in
        (subst (λ h. IsWellFormed (world_of source) (l.typed p r there).vars h one) (sym same) good, trees.0);
  }

  pub typed-theirs : IsTypedAt (world_of source) channel2 r3
  typed-theirs = record {
    vars = (l.typed p r there).vars;
    bound = (l.typed p r there).bound;
    term =
        let same : held_ends channel2 r3.ends ≡ with z (Some (On side w)) (only drop (without x (held_ends l.channel r.ends))) =
        ends-with channel2 drop z b1 base
        ∙ (ap (λ q. with z q (only drop (held_ends channel2 base))) (channel-b1 it) ∙ ap (λ q. with z (Some (On side w)) (only drop q)) base-held) in
        (subst (λ h. IsWellFormed (world_of source) (l.typed p r there).vars h two) (sym same) good_too, trees.1);
  }

  -- Part 3

  end-view : seen l.channel end ≡ view_of side u
  end-view = ap view_in is_on

  pub old-agree : Agree (world_of source) c l.channel end other
  old-agree = l.agree end other joined

  pub nothing-taken : (c.owed other ≡ []) × (view_of side u ≡ old-agree.left)
  nothing-taken = (at-fork it).takes (c.owed other) old-agree.left (subst (λ q. TakesAll (world_of source) q (c.owed other) old-agree.left) end-view old-agree.mine)

  -- what the partner sees behind what was sent
  reached : TakesAll (world_of source) (seen channel2 other) (c.owed end) (turned (view_of side u))
  reached = subst (λ q. TakesAll (world_of source) q (c.owed end) (turned (view_of side u))) (sym (seen-old it other (end-other it) (end, back it)))
      (subst (λ q. TakesAll (world_of source) (seen l.channel other) (c.owed end) (turned q)) (sym nothing-taken.1) old-agree.yours)

  takes-pair : Takes (world_of source) (turned (view_of side u)) (EndPair a2 b2) Nothing
  takes-pair = subst (λ q. taken_at (world_of source) (side_of (turned (view_of side u))) q (EndPair a2 b2) Nothing) (sym (at-fork it).other) refl

  agree-end : Agree (world_of source) d channel2 end other
  agree-end = record {
    left = Nothing;
    mine = subst (λ q. TakesAll (world_of source) (seen channel2 end) q Nothing) (sym (owed-old it other (end-other it) ∙ nothing-taken.0)) (ap view_in (channel-end it));
    yours = subst (λ q. TakesAll (world_of source) (seen channel2 other) q Nothing) (sym (owed-end it))
        (takes-more (world_of source) (seen channel2 other) (c.owed end) (EndPair a2 b2 ∷ []) (turned (view_of side u)) Nothing reached (Nothing, takes-pair, refl));
  }

  agree-a : Agree (world_of source) d channel2 a1 a2
  agree-a = new-agree (world_of source) d channel2 a1 a2 side t (channel-a1 it) (channel-a2 it) (owed-new it 1 First) (owed-new it 1 Second)

  agree-b : Agree (world_of source) d channel2 b1 b2
  agree-b = new-agree (world_of source) d channel2 b1 b2 side w (channel-b1 it) (channel-b2 it) (owed-new it 2 First) (owed-new it 2 Second)

  agree-new : (e f m n : End) → e ≡ m → d.partner m ≡ Some n → d.partner e ≡ Some f → Agree (world_of source) d channel2 m n → Agree (world_of source) d channel2 e f
  agree-new e f m n i j k g =
      let q : Some n ≡ Some f = sym j ∙ (ap d.partner (sym i) ∙ k) in
      subst (λ h. Agree (world_of source) d channel2 h f) (sym i) (subst (λ h. Agree (world_of source) d channel2 m h) (some-is n f q) g)

  agree-old : (e f : End) → c.partner e ≡ Some f → Agree (world_of source) d channel2 e f
  agree-old e f i = elim (same-end e end) [
    | inl j ↦ agree-new e f end other j (wired it end other joined) (wired it e f i) agree-end
    | inr n ↦ elim (same-end e other) [
      | inl j ↦ agree-new e f other end j (wired it other end (back it)) (wired it e f i) (agree-turned (world_of source) d channel2 end other agree-end)
      | inr m ↦
          let bf : c.partner f ≡ Some e = l.apart.placed.paired.back e f i in
          let fn : end ≢ f = λ q. m (some-is e other (sym bf ∙ (ap c.partner (sym q) ∙ joined))) in
          let en : end ≢ e = ne e end n in
          agree-same (world_of source) c d l.channel channel2 e f (seen-old it e en (f, i)) (seen-old it f fn (e, bf)) (owed-old it e en) (owed-old it f fn) (l.agree e f i)
    ]
  ]

  pub agree : (e f : End) → d.partner e ≡ Some f → Agree (world_of source) d channel2 e f
  agree e f i = elim (which it e) [
    | inl (inl (inl j)) ↦ agree-new e f a1 a2 j (partner-a1 it) i agree-a
    | inl (inl (inr j)) ↦ agree-new e f a2 a1 j (partner-a2 it) i (agree-turned (world_of source) d channel2 a1 a2 agree-a)
    | inl (inr (inl j)) ↦ agree-new e f b1 b2 j (partner-b1 it) i agree-b
    | inl (inr (inr j)) ↦ agree-new e f b2 b1 j (partner-b2 it) i (agree-turned (world_of source) d channel2 b1 b2 agree-b)
    | inr o ↦ agree-old e f (sym (partner-old it e o) ∙ i)
  ]

  -- Part 4

  owes-none : owes_pair (c.owed end) ≡ false
  owes-none = no-pair source c l (Process p) end (end-place it)

  pub not-carried : (e : End) → IsCarried (c.owed end) e → ⊥
  not-carried e i = true≢false (sym (carried-owes (c.owed end) e i) ∙ owes-none)

  abbrev pub place2 : End → Place
  place2 = settled p r r2 (Some r3) remains

  pub place-end : place2 end ≡ Gone
  place-end = rw ((end-unlisted it).0, (end-unlisted it).1) (remains-end it)

  sent-pair : IsGoodPair (world_of source) d place2 channel2 end a2 b2 (c.owed end) []
  sent-pair = record {
    different = a2-b2 it;
    last = refl;
    place = place-end;
    channel = channel-end it;
    typed = λ v i.
        let same : other ≡ v = some-is other v (sym (wired it end other joined) ∙ i) in
        subst (λ q. IsPairOf (world_of source) channel2 (c.owed end) q a2 b2) same (record {
          view = turned (view_of side u);
          first = bare_chan t;
          second = bare_chan w;
          reached = reached;
          splits = (at-fork it).other;
          is_first = (t, channel-a2 it ∙ ap (λ q. Some (On q t)) (sym (at-fork it).on), sym (bare-chan-twice t));
          is_second = (w, channel-b2 it ∙ ap (λ q. Some (On q w)) (sym (at-fork it).on), sym (bare-chan-twice w));
        });
  }

  pub pairs : (q m n : End) (before after : List Message) → d.owed q ≡ before ++ (EndPair m n ∷ after) →
      ((c.owed q ≡ before ++ (EndPair m n ∷ after)) × (None ≢ Some q)) ⊎ IsGoodPair (world_of source) d place2 channel2 q m n before after
  pairs q m n before after i = elim (same-end end q) [
    | inl j ↦
        let h : c.owed end ++ (EndPair a2 b2 ∷ []) ≡ before ++ (EndPair m n ∷ after) = sym (owed-end it) ∙ (ap d.owed j ∙ i) in
        let s : IsTheLast (c.owed end) before after a2 b2 m n = one-pair (c.owed end) before after a2 b2 m n owes-none h in
        inr (subst (λ v. IsGoodPair (world_of source) d place2 channel2 v m n before after) j
        (subst (λ v. IsGoodPair (world_of source) d place2 channel2 end v n before after) s.first
        (subst (λ v. IsGoodPair (world_of source) d place2 channel2 end a2 v before after) s.second
        (subst (λ v. IsGoodPair (world_of source) d place2 channel2 end a2 b2 v after) (sym s.before)
        (subst (λ v. IsGoodPair (world_of source) d place2 channel2 end a2 b2 (c.owed end) v) (sym s.after) sent-pair)))))
    | inr j ↦ inl (sym (owed-old it q j) ∙ i, λ h. cc h)
  ]
