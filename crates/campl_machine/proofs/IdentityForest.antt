-- An identity makes no cycle: its node becomes the node at the other end of its first channel, whose edge goes.
use Rattle.std.proofs.Common.{◌≡◌, ◌≢◌, ◌⊎◌, inl, inr, refl, sym, ap, subst, ◌∙◌, Option, Some, None, if◌then◌else◌}
use Rattle.campl_machine.specs.Names.{End, same_end}
use Rattle.campl_machine.specs.Graph.{Graph, Leads, NoCycle, Mutual}
use Rattle.campl_machine.specs.Changes.{Becomes, Contracts, Identity}
use Rattle.campl_machine.proofs.Updates.{split}
use Rattle.campl_machine.proofs.Same.{same_end-is, same_end-refl}
use Rattle.campl_machine.proofs.Ends.{ne, same-end, Off}
use Rattle.campl_machine.proofs.Wired.{wired, wired-gone, wired-x2, wired-y2, wired-off, Sits, sits}
use Rattle.campl_machine.proofs.Bridges.{EachBridge, no_cycle, each_bridge}
use Rattle.campl_machine.proofs.Surgery.{shrink, remove}

module _ {N : Type 0} where
  -- an identity: its node P goes, with its ends x and y
  module _ (partner : End → Option End) (stand stand2 : End → Option N) (P : N) (x y x2 y2 : End)
      (back : (e f : End) → partner e ≡ Some f → partner f ≡ Some e) (px : partner x ≡ Some x2) (py : partner y ≡ Some y2) (xy : x ≢ y) (x2y : x2 ≢ y) (xx2 : x ≢ x2) (yy2 : y ≢ y2)
      (sx : stand x ≡ Some P) (sy : stand y ≡ Some P)
      (same : (e : End) → e ≢ x → e ≢ y → stand2 e ≡ stand e) where
    -- the graph before
    unfoldable pub before : Graph End N
    before = record { partner = partner; at = stand }

    -- the graph after
    unfoldable pub after : Graph End N
    after = record { partner = wired x y x2 y2 partner; at = stand2 }

    xy2 : x ≢ y2
    xy2 i = x2y (cc (px, back y y2 py, i))

    x2y2 : x2 ≢ y2
    x2y2 i = xy (cc (back x x2 px, back y y2 py, i))

    -- what an edge of the new graph is
    Kinds : End → End → Type 0
    Kinds e f = ((e ≡ x2) × (f ≡ y2)) ⊎ ((e ≡ y2) × (f ≡ x2)) ⊎ (Off x y x2 y2 e × Off x y x2 y2 f × (partner e ≡ Some f))

    -- it is the new one or an old one
    kinds : (e f : End) → wired x y x2 y2 partner e ≡ Some f → Kinds e f
    unfolding Kinds Sits
    kinds e f is = elim (sits x y x2 y2 e) [
      | inl w ↦ absurd (cc (is, wired-gone x y x2 y2 partner e w))
      | inr (inl i) ↦ inl (sym i, cc (is, wired-x2 x y x2 y2 partner xx2 (ne x2 y x2y), ap (wired x y x2 y2 partner) i))
      | inr (inr (inl i)) ↦ inr (inl (sym i, cc (is, wired-y2 x y x2 y2 partner xy2 yy2 x2y2, ap (wired x y x2 y2 partner) i)))
      | inr (inr (inr o)) ↦
          let pe : partner e ≡ Some f = sym (wired-off x y x2 y2 partner e o) ∙ is in
          inr (inr (
            o,
            record {
              not_x = λ i. o.not_x2 (cc (back e f pe, px, i));
              not_y = λ i. o.not_y2 (cc (back e f pe, py, i));
              not_x2 = λ i. o.not_x (cc (back e f pe, back x x2 px, i));
              not_y2 = λ i. o.not_y (cc (back e f pe, back y y2 py, i));
            },
            pe,
          ))
    ]

    -- x2's new edge was y's
    old_name : End → End
    old_name e = if same_end x2 e then y else e

    old_name-x2 : old_name x2 ≡ y
    unfolding old_name
    old_name-x2 = rw (same_end-refl x2) refl

    old_name-off : (e : End) → x2 ≢ e → old_name e ≡ e
    unfolding old_name
    old_name-off e n = elim (split (same_end x2 e)) [ inl i ↦ absurd (n (same_end-is x2 e i)) | inr i ↦ rw i refl ]

    module _ (A : N) (sa : stand x2 ≡ Some A) where
      -- each edge of the new graph is one of the old graph
      old-edge : (e f : End) (u v : N) → Leads after e f u v →
          (a : N) × (b : N) × Leads before (old_name e) (old_name f) a b × Becomes A P a u × Becomes A P b v
      unfolding after before Kinds
      old-edge e f u v l = elim (kinds e f l.there) [
        | inl (i, j) ↦
            let uA : A ≡ u = cc (sa, same x2 (ne x x2 xx2) x2y, l.from, i) in
            let re : old_name e ≡ y = ap old_name i ∙ old_name-x2 in
            let rf : old_name f ≡ y2 = ap old_name j ∙ old_name-off y2 x2y2 in
            let sv : stand y2 ≡ Some v = cc (same y2 (ne x y2 xy2) (ne y y2 yy2), l.to, j) in
            (P, v, rw (re, rf) (record { there = py; back = back y y2 py; from = sy; to = sv }), inr (refl, sym uA), inl refl)
        | inr (inl (i, j)) ↦
            let uA : A ≡ v = cc (sa, same x2 (ne x x2 xx2) x2y, l.to, j) in
            let re : old_name e ≡ y2 = ap old_name i ∙ old_name-off y2 x2y2 in
            let rf : old_name f ≡ y = ap old_name j ∙ old_name-x2 in
            let sv : stand y2 ≡ Some u = cc (same y2 (ne x y2 xy2) (ne y y2 yy2), l.from, i) in
            (u, P, rw (re, rf) (record { there = back y y2 py; back = py; from = sv; to = sy }), inl refl, inr (refl, sym uA))
        | inr (inr (o, q, pe)) ↦
            (u, v, rw (old_name-off e o.not_x2, old_name-off f q.not_x2) (record { there = pe; back = back e f pe; from = sym (same e (ne x e o.not_x) (ne y e o.not_y)) ∙ l.from; to = sym (same f (ne x f q.not_x) (ne y f q.not_y)) ∙ l.to }), inl refl, inl refl)
      ]

      -- the new graph's halves aren't x or y
      not-gone : (e f : End) → wired x y x2 y2 partner e ≡ Some f → (x ≢ e) × (y ≢ e)
      not-gone e f is = ((λ i. let n : wired x y x2 y2 partner e ≡ None = wired-gone x y x2 y2 partner e (inl i) in cc (n, is)), (λ i. let n : wired x y x2 y2 partner e ≡ None = wired-gone x y x2 y2 partner e (inr i) in cc (n, is)))

      -- the two cases of `old_name`
      old_name-is : (e : End) → ((x2 ≡ e) × (old_name e ≡ y)) ⊎ ((x2 ≢ e) × (old_name e ≡ e))
      old_name-is e = elim (same-end x2 e) [ inl i ↦ inl (i, ap old_name (sym i) ∙ old_name-x2) | inr n ↦ inr (n, old_name-off e n) ]

      -- an identity contracts the edge of x and x2
      contracts : Contracts before after old_name x2 x A P
      unfolding after before
      contracts = record {
        merged = record { there = back x x2 px; back = px; from = sa; to = sx };
        old = old-edge;
        other = λ e f u v l. elim (old_name-is e) [
          | inl (i, j) ↦ ((λ k. x2y (sym (sym j ∙ k))), (λ k. xy (sym (sym j ∙ k))))
          | inr (n, j) ↦ ((λ k. n (sym (sym j ∙ k))), (λ k. (not-gone e f l.there).0 (sym (sym j ∙ k))))
        ];
        one_to_one = λ e f u v t r a b l m q. elim (old_name-is e) [
          | inl (i, j) ↦ elim (old_name-is t) [
            | inl (i2, j2) ↦ sym i ∙ i2
            | inr (n2, j2) ↦ absurd ((not-gone t r m.there).1 (sym j ∙ (q ∙ j2)))
          ]
          | inr (n, j) ↦ elim (old_name-is t) [
            | inl (i2, j2) ↦ absurd ((not-gone e f l.there).1 (sym (sym j ∙ (q ∙ j2))))
            | inr (n2, j2) ↦ sym j ∙ (q ∙ j2)
          ]
        ];
      }

    -- x2 stands at a node or nowhere
    none-or : (o : Option N) → (o ≡ None) ⊎ ((A : N) × (o ≡ Some A))
    none-or None = inl refl
    none-or (Some A) = inr (A, refl)

    -- an identity makes no cycle
    pub keeps : EachBridge before → EachBridge after
    unfolding after before Kinds
    keeps each = elim (none-or (stand x2)) [
      | inr (A, sa) ↦ shrink before after old_name x2 x A P (contracts A sa) each
      | inl n ↦ remove before after (λ e f u v l. elim (kinds e f l.there) [
        | inl (i, j) ↦ absurd (cc (n, same x2 (ne x x2 xx2) x2y, l.from, i))
        | inr (inl (i, j)) ↦ absurd (cc (n, same x2 (ne x x2 xx2) x2y, l.to, j))
        | inr (inr (o, q, pe)) ↦ record { there = pe; back = back e f pe; from = sym (same e (ne x e o.not_x) (ne y e o.not_y)) ∙ l.from; to = sym (same f (ne x f q.not_x) (ne y f q.not_y)) ∙ l.to }
      ]) each
    ]

  -- the same of graphs with no cycle
  pub identity-forest : (g h : Graph End N) (p : N) (x y x2 y2 : End) → Mutual g.partner → Identity g h p x y x2 y2 → NoCycle g → NoCycle h
  unfolding before after
  identity-forest g h p x y x2 y2 m s forest =
      let e : record { partner = wired x y x2 y2 g.partner; at = h.at } ≡ h = λ i. record { partner = sym s.partners i; at = h.at } in
      subst (λ (k : Graph End N). NoCycle k) e (no_cycle _
      (keeps g.partner g.at h.at p x y x2 y2 m.back s.partner_x s.partner_y s.two_ends s.two_channels (λ i. m.other x (cc (s.partner_x, i))) (λ i. m.other y (cc (s.partner_y, i))) s.at_x s.at_y s.others
      (each_bridge g same-end forest)))
