-- Each step keeps it that each end's partner has it as its own partner.
use Rattle.std.proofs.Common.{◌≡◌, ◌≢◌, List, [], ◌∷◌, inl, inr, refl, sym, ap, subst, ◌∙◌, Option, Some, None, if◌then◌else◌}
use Rattle.campl_machine.specs.Names.{End, Who, same_end}
use Rattle.campl_machine.specs.Machine.{Config, Act, Moves, Looks, Links, Stands, Breaks, update, Lies, both_ways, Does, ends_born}
use Rattle.campl_machine.proofs.Same.{same_end-is, same_end-refl}
use Rattle.campl_machine.proofs.Updates.{split, elsewhere}
use Rattle.campl_machine.proofs.Ends.{apart, ne}
use Rattle.campl_machine.proofs.Wired.{Sits, sits, wired, wired-gone, wired-x2, wired-y2, wired-off}
use Rattle.campl_machine.specs.Independence.{Paired, AllNew, BearsNew}
use Rattle.campl_machine.specs.Graph.{Mutual}

-- one new channel
one-channel : (f : End → Option End) (a b : End) → Mutual f → a ≢ b → f a ≡ None → f b ≡ None →
    Mutual (λ k. if same_end a k then Some b else if same_end b k then Some a else f k)
one-channel f a b m ab fa fb = record {
  back = back;
  other = λ k h. elim (split (same_end a k)) [
    | inl i ↦ let q : Some b ≡ Some k = rw i at h in ab (same_end-is a k i ∙ sym (cc q))
    | inr i ↦ elim (split (same_end b k)) [
      | inl j ↦ let q : Some a ≡ Some k = rw (i, j) at h in ab (cc q ∙ sym (same_end-is b k j))
      | inr j ↦ m.other k (rw (i, j) at h)
    ]
  ];
}
  where
    g : End → Option End
    g k = if same_end a k then Some b else if same_end b k then Some a else f k

    back : (x y : End) → (if same_end a x then Some b else if same_end b x then Some a else f x) ≡ Some y →
        (if same_end a y then Some b else if same_end b y then Some a else f y) ≡ Some x
    back x y h = elim (split (same_end a x)) [
      | inl i ↦
          let q : Some b ≡ Some y = rw i at h in
          let by : b ≡ y = cc q in
          rw (ap (same_end a) (sym by) ∙ apart a b ab, ap (same_end b) (sym by) ∙ same_end-refl b) (ap Some (same_end-is a x i))
      | inr i ↦ elim (split (same_end b x)) [
        | inl j ↦
            let q : Some a ≡ Some y = rw (i, j) at h in
            let ay : a ≡ y = cc q in
            rw (ap (same_end a) (sym ay) ∙ same_end-refl a) (ap Some (same_end-is b x j))
        | inr j ↦
            let q : f x ≡ Some y = rw (i, j) at h in
            let p : f y ≡ Some x = m.back x y q in
            let na : a ≢ y = λ k. let z : f y ≡ None = ap f (sym k) ∙ fa in cc (p, z) in
            let nb : b ≢ y = λ k. let z : f y ≡ None = ap f (sym k) ∙ fb in cc (p, z) in
            rw (apart a y na, apart b y nb) p
      ]
    ]

-- channels of new ends are mutual
pub births : (cs : List (End × End)) (f : End → Option End) → Mutual f → AllNew cs → ((e : End) → Lies (both_ways cs) e → f e ≡ None) →
    Mutual (update same_end (both_ways cs) f)
births [] f m n fresh = m
births (c ∷ cs) f m n fresh =
    one-channel (update same_end (both_ways cs) f) c.0 c.1 (births cs f m n.3 (λ e l. fresh e (inr (inr l)))) n.0
    (elsewhere same_end same_end-is same_end-refl (both_ways cs) f c.0 n.1 ∙ fresh c.0 (inl refl))
    (elsewhere same_end same_end-is same_end-refl (both_ways cs) f c.1 n.2 ∙ fresh c.1 (inr (inl refl)))

-- an identity keeps partners mutual
identity : (f : End → Option End) (x y x2 y2 : End) → Mutual f → f x ≡ Some x2 → f y ≡ Some y2 → x ≢ y → x2 ≢ y → Mutual (wired x y x2 y2 f)
unfolding Sits
identity f x y x2 y2 m px py xy x2y = record { back = back; other = other }
  where
    xx2 : x ≢ x2
    xx2 i = m.other x (cc (px, i))

    yy2 : y ≢ y2
    yy2 i = m.other y (cc (py, i))

    xy2 : x ≢ y2
    xy2 i = x2y (cc (px, m.back y y2 py, i))

    x2y2 : x2 ≢ y2
    x2y2 i = xy (cc (m.back x x2 px, m.back y y2 py, i))

    at1 : wired x y x2 y2 f x2 ≡ Some y2
    at1 = wired-x2 x y x2 y2 f xx2 (ne x2 y x2y)

    at2 : wired x y x2 y2 f y2 ≡ Some x2
    at2 = wired-y2 x y x2 y2 f xy2 yy2 x2y2

    back : (a b : End) → wired x y x2 y2 f a ≡ Some b → wired x y x2 y2 f b ≡ Some a
    back a b h = elim (sits x y x2 y2 a) [
      | inl w ↦ absurd (let z : wired x y x2 y2 f a ≡ None = wired-gone x y x2 y2 f a w in cc (h, z))
      | inr (inl i) ↦ let j : y2 ≡ b = cc (h, at1, ap (wired x y x2 y2 f) i) in subst (λ k. wired x y x2 y2 f k ≡ Some a) j (at2 ∙ ap Some i)
      | inr (inr (inl i)) ↦ let j : x2 ≡ b = cc (h, at2, ap (wired x y x2 y2 f) i) in subst (λ k. wired x y x2 y2 f k ≡ Some a) j (at1 ∙ ap Some i)
      | inr (inr (inr o)) ↦
          let p : f a ≡ Some b = sym (wired-off x y x2 y2 f a o) ∙ h in
          let q : f b ≡ Some a = m.back a b p in
          wired-off x y x2 y2 f b (record { not_x = λ i. o.not_x2 (cc (q, px, i)); not_y = λ i. o.not_y2 (cc (q, py, i)); not_x2 = λ i. o.not_x (cc (q, m.back x x2 px, i)); not_y2 = λ i. o.not_y (cc (q, m.back y y2 py, i)) }) ∙ q
    ]

    other : (a : End) → wired x y x2 y2 f a ≢ Some a
    other a h = elim (sits x y x2 y2 a) [
      | inl w ↦ let z : wired x y x2 y2 f a ≡ None = wired-gone x y x2 y2 f a w in cc (h, z)
      | inr (inl i) ↦ x2y2 (cc (h, at1, ap (wired x y x2 y2 f) i, i))
      | inr (inr (inl i)) ↦ x2y2 (cc (h, at2, ap (wired x y x2 y2 f) i, i))
      | inr (inr (inr o)) ↦ m.other a (sym (wired-off x y x2 y2 f a o) ∙ h)
    ]

-- each step keeps partners mutual
pub paired-kept : {S M : Type 0} (c : Config S M) (p : Who) (A : Act S M) (b : Config S M) → Paired c → BearsNew A →
    ((e : End) → Lies (ends_born A) e → c.partner e ≡ None) → Does c p A b → Paired b
paired-kept {S} {M} c p (Moves m) b pr new fresh e =
    subst (λ (k : Config S M). Mutual k.partner) (sym e) (births m.channels c.partner pr new fresh)
paired-kept {S} {M} c p (Looks t x k) b pr new fresh (z, m, ms, s, pz, is, fits, e) = subst (λ (k : Config S M). Mutual k.partner) (sym e) pr
paired-kept {S} {M} c p (Links x y) b pr new fresh (x2, y2, px, py, xy, x2y, e) =
    subst (λ (k : Config S M). Mutual k.partner) (sym e) (identity c.partner x y x2 y2 pr px py xy x2y)
paired-kept c p Stands b pr new fresh e = absurd e
paired-kept c p Breaks b pr new fresh e = absurd e
