-- A fork: what the process and its child hold.
use Rattle.std.proofs.Common.{◌≡◌, ◌≢◌, ◌⊎◌, ◌∙◌, inl, inr, refl, sym, ap, subst, ℕ, Bool, true, false, true≢false, ◌∷◌, Some, None}
use Rattle.std.proofs.lemmas.Bool.{false_from_ne_true}
use Rattle.campl_machine.specs.Names.{Half, First, End, Process}
use Rattle.campl_machine.proofs.Updates.{split}
use Rattle.campl_machine.proofs.Ends.{ne}
use Rattle.campl_types.specs.Names.{Name, same_name, found}
use Rattle.campl_types.specs.Held.{Channel, without}
use Rattle.campl_types.proofs.Names.{same-is, same-itself}
use Rattle.campl_peel.specs.Terms.{those, held_ends}
use Rattle.campl_meaning.specs.States.{Ends, Running}
use Rattle.campl_meaning.specs.Wants.{born}
use Rattle.campl_meaning.specs.Reductions.{Configuration}
use Rattle.campl_meaning.specs.Apart.{At, IsJoined}
use Rattle.campl_peel.proofs.Peeling.{none-or}
use Rattle.campl_frame.proofs.Listed.{some-is, lists, lists-found, found-listed, IsTidy, found-kept, found-still, not-kept, found-without, still-without, lists-first, lists-more, lists-later, tidy-those, tidy-more, tidy-without}
use Rattle.campl_kept_births.proofs.Newborn.{born-fresh, not-born}
use Rattle.campl_frame.proofs.Held.{held-of, own-place, own-found}
use Rattle.campl_types.proofs.Truth.{not-true}
use Rattle.campl_kept_births.proofs.ForkEnds.{Forking}
use Rattle.campl_kept_births.proofs.ForkEnds.{a1 as a1_of, a2 as a2_of, b1 as b1_of, b2 as b2_of, base as base_of, drop as drop_of, r2 as r2_of, r3 as r3_of, d as d_of, a1-a2, a1-b1, a1-b2, a2-b1, b1-b2, old, end-new, partner-one, wired}

module _ (it : Forking) where
  open it use {source, c, l, p, r, there, x, y, z, one, two, keep, end, other, side, u, t, w, x_is, joined, is_on, forks, new, trees, good, good_too}

  abbrev a1 : End
  a1 = a1_of it

  abbrev a2 : End
  a2 = a2_of it

  abbrev b1 : End
  b1 = b1_of it

  abbrev b2 : End
  b2 = b2_of it

  abbrev base : Ends
  base = base_of it

  abbrev drop : Name → Bool
  drop = drop_of it

  abbrev r2 : Running
  r2 = r2_of it

  abbrev r3 : Running
  r3 = r3_of it

  abbrev d : Configuration
  d = d_of it

  -- What is held

  pub end-place : l.place end ≡ At (Process p)
  end-place = (own-place source c l p r there x end x_is).0

  tidy : IsTidy r.ends
  tidy = record { names = l.apart.placed.names p r there; once = λ m n e f g. l.apart.placed.ends p r m n e there f g }

  tidy-base : IsTidy base
  tidy-base = tidy-without x r.ends tidy

  free-name : (n : Name) → without x (held_ends l.channel r.ends) n ≡ None → found n base ≡ None
  free-name n i = elim (none-or (found n base)) [
    | inl j ↦ j
    | inr (e, f) ↦
        let g : (same_name x n ≡ false) × (found n r.ends ≡ Some e) = found-without x r.ends n e f in
        let ch : (ch : Channel) × (l.channel e ≡ Some ch) = l.has_type p e (r, n, there, g.1) in
        let h : held_ends l.channel r.ends n ≡ Some ch.0 = held-of l.channel r.ends n e ch.0 g.1 ch.1 in
        let m : without x (held_ends l.channel r.ends) n ≡ Some ch.0 = rw g.0 h in
        absurd (let no : None ≡ Some ch.0 = sym i ∙ m in cc no)
  ]

  pub in-base : (test : Name → Bool) (n : Name) (e : End) → found n (those test base) ≡ Some e → (test n ≡ true) × (same_name x n ≡ false) × (found n r.ends ≡ Some e)
  in-base test n e f =
      let g : (test n ≡ true) × (found n base ≡ Some e) = found-kept test base n e f in
      let h : (same_name x n ≡ false) × (found n r.ends ≡ Some e) = found-without x r.ends n e g.1 in
      (g.0, h.0, h.1)

  not-held : (test : Name → Bool) (m : ℕ) (h : Half) (n : Name) → found n (those test base) ≢ Some (born p r m h)
  not-held test m h n f = not-born source c l p r there (born p r m h) m h (own-place source c l p r there n (born p r m h) (in-base test n (born p r m h) f).2).1 refl

  pub tidy-mine : IsTidy r2.ends
  tidy-mine = tidy-more y a1 (those keep base) (tidy-those keep base tidy-base) (not-kept keep base y (free-name y new.0)) (not-held keep 1 First)

  pub tidy-theirs : IsTidy r3.ends
  tidy-theirs = tidy-more z b1 (those drop base) (tidy-those drop base tidy-base) (not-kept drop base z (free-name z new.1)) (not-held drop 2 First)

  in-list : (test : Name → Bool) (v : Name) (m : End) (e : End) → lists e ((v, m) ∷ those test base) ≡ true → (e ≡ m) ⊎ ((n : Name) × (test n ≡ true) × (same_name x n ≡ false) × (found n r.ends ≡ Some e))
  in-list test v m e i = elim (lists-more v m (those test base) e i) [
    | inl j ↦ inl j
    | inr j ↦
        let (n, f) = found-listed e (those test base) (tidy-those test base tidy-base).names j in
        let g : (test n ≡ true) × (same_name x n ≡ false) × (found n r.ends ≡ Some e) = in-base test n e f in
        inr (n, g.0, g.1, g.2)
  ]

  in-mine : (e : End) → lists e r2.ends ≡ true → (e ≡ a1) ⊎ ((n : Name) × (keep n ≡ true) × (same_name x n ≡ false) × (found n r.ends ≡ Some e))
  in-mine e i = in-list keep y a1 e i

  in-theirs : (e : End) → lists e r3.ends ≡ true → (e ≡ b1) ⊎ ((n : Name) × (drop n ≡ true) × (same_name x n ≡ false) × (found n r.ends ≡ Some e))
  in-theirs e i = in-list drop z b1 e i

  kept : (e : End) (n : Name) → found n r.ends ≡ Some e → (e ≡ end) ⊎ ((lists e r3.ends ≡ true) ⊎ (lists e r2.ends ≡ true))
  kept e n f = elim (split (same_name x n)) [
    | inl s ↦ let g : found x r.ends ≡ Some e = subst (λ m. found m r.ends ≡ Some e) (sym (same-is x n s)) f in inl (some-is e end (sym g ∙ x_is))
    | inr s ↦ elim (split (keep n)) [
      | inl g ↦ inr (inr (lists-later y a1 (those keep base) e (lists-found e (those keep base) n (found-still keep base n e g (still-without x r.ends n e s f)))))
      | inr g ↦ inr (inl (lists-later z b1 (those drop base) e (lists-found e (those drop base) n (found-still drop base n e (rw g refl) (still-without x r.ends n e s f)))))
    ]
  ]

  pub all-kept : (e : End) → IsJoined c e → end ≢ e → l.place e ≡ At (Process p) → lists e r3.ends ≡ false → lists e r2.ends ≡ false → ⊥
  all-kept e j n i m o =
      let (q, f) = own-found source c l p r there e j i in
      elim (kept e q f) [
        | inl g ↦ n (sym g)
        | inr (inl g) ↦ true≢false (sym g ∙ m)
        | inr (inr g) ↦ true≢false (sym g ∙ o)
      ]

  pub not-end : (e : End) (n : Name) → same_name x n ≡ false → found n r.ends ≡ Some e → end ≢ e
  not-end e n s f i =
      let g : x ≡ n = tidy.once x n end x_is (f ∙ ap Some (sym i)) in
      true≢false (sym (subst (λ m. same_name x m ≡ true) g (same-itself x)) ∙ s)

  -- what is held: new or (old it)
  own-kind : (e : End) → (lists e r3.ends ≡ true) ⊎ (lists e r2.ends ≡ true) → ((e ≡ b1) ⊎ (e ≡ a1)) ⊎ ((end ≢ e) × (l.place e ≡ At (Process p)) × IsJoined c e)
  own-kind e (inl i) = elim (in-theirs e i) [
    | inl j ↦ inl (inl j)
    | inr (n, g, s, f) ↦ let o : (l.place e ≡ At (Process p)) × IsJoined c e = own-place source c l p r there n e f in inr (not-end e n s f, o.0, o.1)
  ]
  own-kind e (inr i) = elim (in-mine e i) [
    | inl j ↦ inl (inr j)
    | inr (n, g, s, f) ↦ let o : (l.place e ≡ At (Process p)) × IsJoined c e = own-place source c l p r there n e f in inr (not-end e n s f, o.0, o.1)
  ]

  not-listed : (e : End) → (e ≢ b1) → (e ≢ a1) → (end ≢ e → IsJoined c e → l.place e ≢ At (Process p)) → (lists e r3.ends ≡ false) × (lists e r2.ends ≡ false)
  not-listed e n m o = (false_from_ne_true (lists e r3.ends) (λ i. out (own-kind e (inl i))), false_from_ne_true (lists e r2.ends) (λ i. out (own-kind e (inr i))))
    where
      out : ((e ≡ b1) ⊎ (e ≡ a1)) ⊎ ((end ≢ e) × (l.place e ≡ At (Process p)) × IsJoined c e) → ⊥
      out (inl (inl i)) = n i
      out (inl (inr i)) = m i
      out (inr (i, j, k)) = o i k j

  pub end-unlisted : (lists end r3.ends ≡ false) × (lists end r2.ends ≡ false)
  end-unlisted = not-listed end (end-new it 2 First) (end-new it 1 First) (λ n. absurd (n refl))

  pub a2-unlisted : (lists a2 r3.ends ≡ false) × (lists a2 r2.ends ≡ false)
  a2-unlisted = not-listed a2 (a2-b1 it) (ne a1 a2 (a1-a2 it)) (λ n j. absurd ((old it a2 j).1 refl))

  pub b2-unlisted : (lists b2 r3.ends ≡ false) × (lists b2 r2.ends ≡ false)
  b2-unlisted = not-listed b2 (ne b1 b2 (b1-b2 it)) (ne a1 b2 (a1-b2 it)) (λ n j. absurd ((old it b2 j).3 refl))

  pub has-a1 : lists a1 r2.ends ≡ true
  has-a1 = lists-first y a1 (those keep base)

  pub has-b1 : lists b1 r3.ends ≡ true
  has-b1 = lists-first z b1 (those drop base)

  pub shared : (e : End) → lists e r3.ends ≡ true → lists e r2.ends ≡ true → ⊥
  shared e i j = elim (in-theirs e i) [
    | inl m ↦ elim (in-mine e j) [
      | inl n ↦ a1-b1 it (sym n ∙ m)
      | inr (n, g, s, f) ↦ (old it e (own-place source c l p r there n e f).1).2 (sym m)
    ]
    | inr (m, u2, s2, f2) ↦ elim (in-mine e j) [
      | inl n ↦ (old it e (own-place source c l p r there m e f2).1).0 (sym n)
      | inr (n, g, s, f) ↦
          let same : m ≡ n = tidy.once m n e f2 f in
          let h : drop n ≡ true = subst (λ q. drop q ≡ true) same u2 in
          true≢false (sym g ∙ not-true (keep n) h)
    ]
  ]

  pub own-joined : (e : End) → (lists e r3.ends ≡ true) ⊎ (lists e r2.ends ≡ true) → IsJoined d e
  own-joined e i = elim (own-kind e i) [
    | inl (inl j) ↦ partner-one it e (inr (inl j))
    | inl (inr j) ↦ partner-one it e (inl (inl j))
    | inr (n, at, j) ↦ (j.0, wired it e j.0 j.1)
  ]

  pub own-free : (e : End) → (lists e r3.ends ≡ true) ⊎ (lists e r2.ends ≡ true) → (c.partner e ≡ None) ⊎ (l.place e ≡ At (Process p))
  own-free e i = elim (own-kind e i) [
    | inl (inl j) ↦ inl (ap c.partner j ∙ born-fresh source c l p r there 2 First)
    | inl (inr j) ↦ inl (ap c.partner j ∙ born-fresh source c l p r there 1 First)
    | inr (n, at, j) ↦ inr at
  ]
