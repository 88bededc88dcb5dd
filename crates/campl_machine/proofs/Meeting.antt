-- Two steps that have nothing to do with one another stay possible after one another.
use Rattle.std.proofs.Common.{◌≡◌, ◌≢◌, Bool, ◌∷◌, ◌++◌, inl, inr, refl, sym, ap, subst, ◌∙◌, Option, Some, None}
use Rattle.campl_machine.specs.Names.{End, Who, same_end}
use Rattle.campl_machine.specs.Machine.{Config, Move, Act, Moves, Looks, Links, Stands, Breaks, update, Lies, sent, moved, looked, linked, Does, nodes_born, both_ways, performs}
use Rattle.campl_machine.specs.Independence.{Independent, Paired, NotBoth, Commute}
use Rattle.campl_machine.proofs.Same.{same_end-is, same_end-refl}
use Rattle.campl_machine.proofs.Updates.{elsewhere}
use Rattle.campl_machine.proofs.Ends.{ne, same-end, same-some, Off, Six}
use Rattle.campl_machine.proofs.Owed.{added, sent-added, taken-other, at_y2, off}
use Rattle.campl_machine.proofs.Wired.{wired-x2, wired-off}
use Rattle.campl_machine.proofs.BothOrders.{moves-moves, moves-looks, moves-links, looks-looks, turned, looks-links-u, looks-links-off, links-shared, links-apart}
use Rattle.campl_machine.proofs.Partners.{paired-kept}
use Rattle.campl_machine.proofs.Performs.{does_of, of_does, itself}

module _ {S M : Type 0} where
  -- both steps can be made after one another, and lead to one configuration
  unfoldable pub Meets : Config S M → Config S M → Who → Act S M → Who → Act S M → Type 0
  Meets b d p A q B = (e : Config S M) × Does b q B e × Does d p A e

  -- the two steps named the other way round
  turn : (b d : Config S M) (p q : Who) (A B : Act S M) → Meets d b q B p A → Meets b d p A q B
  unfolding Meets
  turn b d p q A B m = (m.0, m.2, m.1)

  -- the four ends of an identity
  pub record Four (c : Config S M) (u v u2 v2 : End) : Type 0 where
    pub uu2 : u ≢ u2
    pub vu2 : v ≢ u2
    pub uv2 : u ≢ v2
    pub vv2 : v ≢ v2
    pub u2v2 : u2 ≢ v2

  -- they are all different
  four : (c : Config S M) (u v u2 v2 : End) → Paired c → c.partner u ≡ Some u2 → c.partner v ≡ Some v2 → u ≢ v → u2 ≢ v → Four c u v u2 v2
  four c u v u2 v2 pr pu pv uv u2v = record {
    uu2 = λ i. pr.other u (cc (pu, i));
    vu2 = ne u2 v u2v;
    uv2 = λ i. u2v (cc (pu, pr.back v v2 pv, i));
    vv2 = λ i. pr.other v (cc (pv, i));
    u2v2 = λ i. uv (cc (pr.back u u2 pu, pr.back v v2 pv, i));
  }

  -- a receipt by p and an identity of q whose second channel isn't p's
  meet-looks-u : (c : Config S M) (p q : Who) (t : Bool) (x u v : End) (k : M → Option S) (b d : Config S M) → Paired c → p ≢ q → x ≢ u →
      x ≢ v → c.partner x ≢ Some v →
      Does c p (Looks t x k) b → Does c q (Links u v) d → Meets b d p (Looks t x k) q (Links u v)
  unfolding Meets
  meet-looks-u c p q t x u v k b d pr pq xu xv far (z, m, rest, s, px, is, fits, eb) (u2, v2, pu, pv, uv, u2v, ed) =
      let f : Four c u v u2 v2 = four c u v u2 v2 pr pu pv uv u2v in
      let xv2 : x ≢ v2 = λ i. far (cc (pr.back v v2 pv, i)) in
      elim (same-end z u) [
        | inl i ↦
            let j : u2 ≡ x = cc (pu, pr.back x z px, i) in
            let ux : u ≢ x = ne x u xu in
            let ed2 : d ≡ linked c q u v x v2 = subst (λ y. d ≡ linked c q u v y v2) j ed in
            let fu : c.owed u ≡ m ∷ rest = subst (λ y. c.owed y ≡ m ∷ rest) i is in
            let e : Config S M = linked (looked c p t u s) q u v x v2 in
            let there : (linked c q u v x v2).owed v2 ≡ m ∷ (rest ++ c.owed v2) = at_y2 u v x v2 c.owed f.uv2 f.vv2 ∙ ap (λ y. y ++ c.owed v2) fu in
            let after : Does (linked c q u v x v2) p (Looks t x k) e =
            (v2, m, rest ++ c.owed v2, s, wired-x2 u v x v2 c.partner ux (ne x v xv), there, fits, sym (looks-links-u c p q t s u v x v2 m rest pq fu uv ux (ne x v xv) f.uv2 f.vv2 xv2)) in
            let before : Does (looked c p t u s) q (Links u v) e = (x, v2, subst (λ y. c.partner u ≡ Some y) j pu, pv, uv, xv, refl) in
            let eb2 : b ≡ looked c p t u s = subst (λ y. b ≡ looked c p t y s) i eb in
            (e, subst (λ y. Does y q (Links u v) e) (sym eb2) before, subst (λ y. Does y p (Looks t x k) e) (sym ed2) after)
        | inr zu ↦
            let zv : z ≢ v = λ i. far (cc (px, i)) in
            let xu2 : x ≢ u2 = λ i. zu (cc (px, pr.back u u2 pu, i)) in
            let zu2 : z ≢ u2 = λ i. xu (cc (pr.back x z px, pr.back u u2 pu, i)) in
            let zv2 : z ≢ v2 = λ i. xv (cc (pr.back x z px, pr.back v v2 pv, i)) in
            let e : Config S M = linked (looked c p t z s) q u v u2 v2 in
            let after : Does (linked c q u v u2 v2) p (Looks t x k) e = (
              z,
              m,
              rest,
              s,
              wired-off u v u2 v2 c.partner x (record { not_x = ne x u xu; not_y = ne x v xv; not_x2 = ne x u2 xu2; not_y2 = ne x v2 xv2 }) ∙ px,
              off u v u2 v2 c.owed z (record { not_x = ne z u zu; not_y = ne z v zv; not_x2 = ne z u2 zu2; not_y2 = ne z v2 zv2 }) ∙ is,
              fits,
              sym (looks-links-off c p q t s z u v u2 v2 pq zu zv zu2 zv2),
            ) in
            let before : Does (looked c p t z s) q (Links u v) e = (u2, v2, pu, pv, uv, u2v, refl) in
            (e, subst (λ y. Does y q (Links u v) e) (sym eb) before, subst (λ y. Does y p (Looks t x k) e) (sym ed) after)
      ]

  -- the second step's identity read from its other side
  turn-links : (b d : Config S M) (p q : Who) (A : Act S M) (u v : End) → Paired b → Meets b d p A q (Links u v) →
      Meets b d p A q (Links v u)
  unfolding Meets
  turn-links b d p q A u v pr m = (m.0, turned b q u v m.0 pr m.1, m.2)

  -- a receipt by p and an identity of q
  meet-looks-links : (c : Config S M) (p q : Who) (t : Bool) (x u v : End) (k : M → Option S) (b d : Config S M) → Paired c → Paired b →
      p ≢ q → x ≢ u → x ≢ v →
      Does c p (Looks t x k) b → Does c q (Links u v) d → Meets b d p (Looks t x k) q (Links u v)
  meet-looks-links c p q t x u v k b d pr prb pq xu xv db dd = elim (same-some (c.partner x) v) [
    | inr far ↦ meet-looks-u c p q t x u v k b d pr pq xu xv far db dd
    | inl i ↦ turn-links b d p q (Looks t x k) v u prb
        (meet-looks-u c p q t x v u k b d pr pq xv xu (λ j. dd.4 (cc (i, j))) db (turned c q u v d pr dd))
  ]

  -- two identities, where the first end of p's has the first end of q's for its partner
  meet-shared : (c : Config S M) (p q : Who) (x y u v : End) (b d : Config S M) → Paired c → p ≢ q → x ≢ u → x ≢ v → y ≢ u → y ≢ v →
      c.partner x ≡ Some u → c.partner y ≢ Some v → Does c p (Links x y) b → Does c q (Links u v) d → Meets b d p (Links x y) q (Links u v)
  unfolding Meets
  meet-shared c p q x y u v b d pr pq nxu nxv nyu nyv xu far (x2, y2, px, py, xy, x2y, eb) (u2, v2, pu, pv, uv, u2v, ed) =
      let f : Four c x y x2 y2 = four c x y x2 y2 pr px py xy x2y in
      let g : Four c u v u2 v2 = four c u v u2 v2 pr pu pv uv u2v in
      let i : x2 ≡ u = cc (px, xu) in
      let j : u2 ≡ x = cc (pu, pr.back x x2 px, i) in
      let yv2 : y ≢ v2 = λ k. far (cc (pr.back v v2 pv, k)) in
      let y2v : y2 ≢ v = λ k. far (cc (py, k)) in
      let six : Six x y u y2 v v2 = record {
        xy = xy;
        xu = nxu;
        xy2 = f.uv2;
        xv = nxv;
        xv2 = λ k. uv (cc (xu, pr.back v v2 pv, k));
        yu = nyu;
        yy2 = f.vv2;
        yv = nyv;
        yv2 = yv2;
        uy2 = subst (λ k. k ≢ y2) i f.u2v2;
        uv = uv;
        uv2 = g.uv2;
        y2v = y2v;
        y2v2 = λ k. nyv (cc (pr.back y y2 py, pr.back v v2 pv, k));
        vv2 = g.vv2;
      } in
      let eb2 : b ≡ linked c p x y u y2 = subst (λ k. b ≡ linked c p x y k y2) i eb in
      let ed2 : d ≡ linked c q u v x v2 = subst (λ k. d ≡ linked c q u v k v2) j ed in
      let e : Config S M = linked (linked c p x y u y2) q u v y2 v2 in
      let before : Does (linked c p x y u y2) q (Links u v) e =
      (y2, v2, wired-x2 x y u y2 c.partner six.xu six.yu, wired-off x y u y2 c.partner v (record { not_x = six.xv; not_y = six.yv; not_x2 = six.uv; not_y2 = six.y2v }) ∙ pv, uv, y2v, refl) in
      let after : Does (linked c q u v x v2) p (Links x y) e =
      (v2, y2, wired-x2 u v x v2 c.partner (ne x u six.xu) (ne x v six.xv), wired-off u v x v2 c.partner y (record { not_x = ne y u six.yu; not_y = ne y v six.yv; not_x2 = six.xy; not_y2 = ne y v2 six.yv2 }) ∙ py, xy, ne y v2 yv2, links-shared c p q x y u y2 v v2 pq six) in
      (e, subst (λ k. Does k q (Links u v) e) (sym eb2) before, subst (λ k. Does k p (Links x y) e) (sym ed2) after)

  -- the first step's identity read from its other side
  turn-links-first : (b d : Config S M) (p q : Who) (B : Act S M) (x y : End) → Paired d → Meets b d p (Links x y) q B →
      Meets b d p (Links y x) q B
  unfolding Meets
  turn-links-first b d p q B x y pr m = (m.0, m.1, turned d p x y m.0 pr m.2)

  -- two identities
  meet-links : (c : Config S M) (p q : Who) (x y u v : End) (b d : Config S M) → Paired c → Paired b → Paired d → p ≢ q → x ≢ u → x ≢ v →
      y ≢ u → y ≢ v → NotBoth {S = S} {M = M} c (Links x y) (Links u v) →
      Does c p (Links x y) b → Does c q (Links u v) d → Meets b d p (Links x y) q (Links u v)
  unfolding Meets
  meet-links c p q x y u v b d pr prb prd pq nxu nxv nyu nyv nb db dd = elim (same-some (c.partner x) u) [
    | inl i ↦ meet-shared c p q x y u v b d pr pq nxu nxv nyu nyv i (nb.0 i) db dd
    | inr xu ↦ elim (same-some (c.partner x) v) [
      | inl i ↦ turn-links b d p q (Links x y) v u prb (meet-shared c p q x y v u b d pr pq nxv nxu nyv nyu i (nb.1 i) db (turned c q u v d pr dd))
      | inr xv ↦ elim (same-some (c.partner y) u) [
        | inl i ↦ turn-links-first b d p q (Links u v) y x prd (meet-shared c p q y x u v b d pr pq nyu nyv nxu nxv i xv (turned c p x y b pr db) dd)
        | inr yu ↦ elim (same-some (c.partner y) v) [
          | inl i ↦ turn-links-first b d p q (Links u v) y x prd (turn-links b d p q (Links y x) v u prb
              (meet-shared c p q y x v u b d pr pq nyv nyu nxv nxu i xu (turned c p x y b pr db) (turned c q u v d pr dd)))
          | inr yv ↦
              let (x2, y2, px, py, xy, x2y, eb) = db in
              let (u2, v2, pu, pv, uv, u2v, ed) = dd in
              let bu : c.partner u2 ≡ Some u = pr.back u u2 pu in
              let bv : c.partner v2 ≡ Some v = pr.back v v2 pv in
              let ou : Off x y x2 y2 u = record { not_x = nxu; not_y = nyu; not_x2 = λ k. xu (cc (px, k)); not_y2 = λ k. yu (cc (py, k)) } in
              let ov : Off x y x2 y2 v = record { not_x = nxv; not_y = nyv; not_x2 = λ k. xv (cc (px, k)); not_y2 = λ k. yv (cc (py, k)) } in
              let ou2 : Off x y x2 y2 u2 = record { not_x = λ k. xu (cc (bu, k)); not_y = λ k. yu (cc (bu, k)); not_x2 = λ k. nxu (cc (pr.back x x2 px, bu, k)); not_y2 = λ k. nyu (cc (pr.back y y2 py, bu, k)) } in
              let ov2 : Off x y x2 y2 v2 = record { not_x = λ k. xv (cc (bv, k)); not_y = λ k. yv (cc (bv, k)); not_x2 = λ k. nxv (cc (pr.back x x2 px, bv, k)); not_y2 = λ k. nyv (cc (pr.back y y2 py, bv, k)) } in
              let e : Config S M = linked (linked c p x y x2 y2) q u v u2 v2 in
              let before : Does (linked c p x y x2 y2) q (Links u v) e =
              (u2, v2, wired-off x y x2 y2 c.partner u ou ∙ pu, wired-off x y x2 y2 c.partner v ov ∙ pv, uv, u2v, refl) in
              let after : Does (linked c q u v u2 v2) p (Links x y) e = (
                x2,
                y2,
                wired-off u v u2 v2 c.partner x (record { not_x = ne x u nxu; not_y = ne x v nxv; not_x2 = ne x u2 ou2.not_x; not_y2 = ne x v2 ov2.not_x }) ∙ px,
                wired-off u v u2 v2 c.partner y (record { not_x = ne y u nyu; not_y = ne y v nyv; not_x2 = ne y u2 ou2.not_y; not_y2 = ne y v2 ov2.not_y }) ∙ py,
                xy,
                x2y,
                links-apart c p q x y x2 y2 u v u2 v2 pq ou ov ou2 ov2,
              ) in
              (e, subst (λ k. Does k q (Links u v) e) (sym eb) before, subst (λ k. Does k p (Links x y) e) (sym ed) after)
        ]
      ]
    ]
  ]

  -- an end that has a partner keeps it where others are born
  no-births : (c : Config S M) (m : Move S M) (e f : End) → ((x : End) → Lies (both_ways m.channels) x → c.partner x ≡ None) →
      c.partner e ≡ Some f → update same_end (both_ways m.channels) c.partner e ≡ Some f
  no-births c m e f fresh is = elsewhere same_end same_end-is same_end-refl (both_ways m.channels) c.partner e (λ l. let n : c.partner e ≡ None = fresh e l in cc (n, is)) ∙ is

  -- a move and a receipt
  meet-moves-looks : (c : Config S M) (p q : Who) (m : Move S M) (t : Bool) (x : End) (k : M → Option S) (b d : Config S M) →
      Independent c p (Moves m) q (Looks t x k) →
      Does c p (Moves m) b → Does c q (Looks t x k) d → Meets b d p (Moves m) q (Looks t x k)
  unfolding Meets
  meet-moves-looks c p q m t x k b d s eb (z, v, rest, l, px, is, fits, ed) =
      let e : Config S M = looked (moved c p m) q t z l in
      let more : sent m.send c.owed z ≡ v ∷ (rest ++ added m.send z) = sent-added m.send c.owed z ∙ ap (λ y. y ++ added m.send z) is in
      let before : Does (moved c p m) q (Looks t x k) e = (z, v, rest ++ added m.send z, l, no-births c m x z s.fresh_a px, more, fits, refl) in
      let after : Does (looked c q t z l) p (Moves m) e = moves-looks c p q m t z l v rest is s.nodes in
      (e, subst (λ y. Does y q (Looks t x k) e) (sym eb) before, subst (λ y. Does y p (Moves m) e) (sym ed) after)

  -- a move and an identity
  meet-moves-links : (c : Config S M) (p q : Who) (m : Move S M) (x y : End) (b d : Config S M) → Paired c →
      Independent c p (Moves m) q (Links x y) →
      Does c p (Moves m) b → Does c q (Links x y) d → Meets b d p (Moves m) q (Links x y)
  unfolding Meets
  meet-moves-links c p q m x y b d pr s eb (x2, y2, px, py, xy, x2y, ed) =
      let e : Config S M = linked (moved c p m) q x y x2 y2 in
      let before : Does (moved c p m) q (Links x y) e = (x2, y2, no-births c m x x2 s.fresh_a px, no-births c m y y2 s.fresh_a py, xy, x2y, refl) in
      let after : Does (linked c q x y x2 y2) p (Moves m) e = moves-links c p q m x y x2 y2 pr px py s in
      (e, subst (λ k. Does k q (Links x y) e) (sym eb) before, subst (λ k. Does k p (Moves m) e) (sym ed) after)

  -- independence goes both ways
  pub back-independent : (c : Config S M) (p q : Who) (A B : Act S M) → Independent c p A q B → Independent c q B p A
  back-independent c p q A B s = record { nodes = λ w i j. s.nodes w j i; ends = λ e i j. s.ends e j i; uses = λ e i j. s.uses e j i; fresh_a = s.fresh_b; fresh_b = s.fresh_a }

  -- a receipt or an identity leaves each end's partner with it as its own
  looks-paired : (c : Config S M) (p : Who) (t : Bool) (x : End) (k : M → Option S) (b : Config S M) → Paired c →
      Does c p (Looks t x k) b → Paired b
  looks-paired c p t x k b pr db = paired-kept c p (Looks t x k) b pr tt (λ e l. absurd l) db

  -- and so does an identity
  links-paired : (c : Config S M) (p : Who) (x y : End) (b : Config S M) → Paired c → Does c p (Links x y) b → Paired b
  links-paired c p x y b pr db = paired-kept c p (Links x y) b pr tt (λ e l. absurd l) db

  -- both orders are possible, and lead to one configuration
  pub meet : (c : Config S M) (p q : Who) (A B : Act S M) (b d : Config S M) → Paired c → p ≢ q → Independent c p A q B → NotBoth c A B →
      Does c p A b → Does c q B d → Meets b d p A q B
  unfolding Meets
  meet c p q (Moves m) (Moves n) b d pr pq s nb eb ed =
      (moved (moved c p m) q n, ap (λ k. moved k q n) (sym eb), moves-moves c p q m n s ∙ ap (λ k. moved k p m) (sym ed))
  meet c p q (Moves m) (Looks t x k) b d pr pq s nb db dd = meet-moves-looks c p q m t x k b d s db dd
  meet c p q (Moves m) (Links x y) b d pr pq s nb db dd = meet-moves-links c p q m x y b d pr s db dd
  meet c p q (Looks t x k) (Moves m) b d pr pq s nb db dd = turn b d p q (Looks t x k) (Moves m) (meet-moves-looks c q p m t x k d b (back-independent c p q (Looks t x k) (Moves m) s) dd db)
  meet c p q (Looks t x k) (Looks u y l) b d pr pq s nb (z, m, r, h, px, is, fits, eb) (z2, m2, r2, h2, py, is2, fits2, ed) =
      let n : z ≢ z2 = λ i. s.uses x refl (cc (pr.back x z px, pr.back y z2 py, i)) in
      let e : Config S M = looked (looked c p t z h) q u z2 h2 in
      let before : Does (looked c p t z h) q (Looks u y l) e = (z2, m2, r2, h2, py, taken-other t z c.owed z2 n ∙ is2, fits2, refl) in
      let after : Does (looked c q u z2 h2) p (Looks t x k) e =
      (z, m, r, h, px, taken-other u z2 c.owed z (ne z z2 n) ∙ is, fits, looks-looks c p q t u z z2 h h2 n pq) in
      (e, subst (λ k. Does k q (Looks u y l) e) (sym eb) before, subst (λ j. Does j p (Looks t x k) e) (sym ed) after)
  meet c p q (Looks t x k) (Links u v) b d pr pq s nb db dd =
      meet-looks-links c p q t x u v k b d pr (looks-paired c p t x k b pr db) pq (λ i. s.uses x refl (inl i)) (λ i. s.uses x refl (inr i)) db dd
  meet c p q (Links x y) (Moves m) b d pr pq s nb db dd = turn b d p q (Links x y) (Moves m) (meet-moves-links c q p m x y d b pr (back-independent c p q (Links x y) (Moves m) s) dd db)
  meet c p q (Links x y) (Looks t u k) b d pr pq s nb db dd =
      turn b d p q (Links x y) (Looks t u k) (meet-looks-links c q p t u x y k d b pr (looks-paired c q t u k d pr dd) (λ i. pq (sym i)) (λ i. s.uses u (inl i) refl) (λ i. s.uses u (inr i) refl) dd db)
  meet c p q (Links x y) (Links u v) b d pr pq s nb db dd =
      meet-links c p q x y u v b d pr (links-paired c p x y b pr db) (links-paired c q u v d pr dd) pq
      (λ i. s.uses x (inl refl) (inl i)) (λ i. s.uses x (inl refl) (inr i)) (λ i. s.uses y (inr refl) (inl i)) (λ i. s.uses y (inr refl) (inr i)) nb db dd
  meet c p q Stands B b d pr pq s nb db dd = absurd db
  meet c p q Breaks B b d pr pq s nb db dd = absurd db
  meet c p q (Moves m) Stands b d pr pq s nb db dd = absurd dd
  meet c p q (Looks t x k) Stands b d pr pq s nb db dd = absurd dd
  meet c p q (Links x y) Stands b d pr pq s nb db dd = absurd dd
  meet c p q (Moves m) Breaks b d pr pq s nb db dd = absurd dd
  meet c p q (Looks t x k) Breaks b d pr pq s nb db dd = absurd dd
  meet c p q (Links x y) Breaks b d pr pq s nb db dd = absurd dd

  -- the same of the steps that are computed
  steps : (b d : Config S M) (p q : Who) (A B : Act S M) → Meets b d p A q B →
      (e : Config S M) × (performs b q B ≡ Some e) × (performs d p A ≡ Some e)
  unfolding Meets
  steps b d p q A B (e, be, de) = (e, of_does b q B e be, of_does d p A e de)

  -- independent steps are of different nodes
  two-nodes : (c b d : Config S M) (p q : Who) (A B : Act S M) → Independent c p A q B → Does c p A b → Does c q B d → p ≢ q
  two-nodes c b d p q A B s db dd i = s.nodes q (subst (λ k. Lies (nodes_born p A) k) i (itself p c A b db)) (itself q c B d dd)

  -- the diamond
  pub diamond : (c : Config S M) (p q : Who) (A B : Act S M) → Paired c → Independent c p A q B → NotBoth c A B → Commute c p A q B
  diamond c p q A B pr s nb b d pb pd =
      let db : Does c p A b = does_of c p A b pb in
      let dd : Does c q B d = does_of c q B d pd in
      steps b d p q A B (meet c p q A B b d pr (two-nodes c b d p q A B s db dd) s nb db dd)
