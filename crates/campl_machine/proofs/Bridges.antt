-- A graph has no cycle exactly where each edge is a bridge.
use Rattle.std.proofs.Common.{◌≡◌, ◌≢◌, List, [], ◌∷◌, ◌⊎◌, inl, inr, refl, sym, subst, Option, Some, None}
use Rattle.campl_machine.specs.Graph.{Graph, Leads, Walk, Avoids, UsesOnce, NoCycle}

-- S holds of the nodes that are cut off from u where the edge e, f is taken away
pub record Bridge {E N : Type 0} (g : Graph E N) (e f : E) (u v : N) (S : N → Type 0) : Type 0 where
  pub near : S u → ⊥
  pub far : S v
  pub kept : (x y : E) (a b : N) → Leads g x y a b → x ≢ e → x ≢ f → S a → S b

-- each edge is a bridge: without it nothing leads from one of its nodes to the other
abbrev pub EachBridge : {E N : Type 0} → Graph E N → Type 1
EachBridge {E} {N} g = (e f : E) (u v : N) → Leads g e f u v → (S : N → Type 0) × Bridge g e f u v S

module _ {E N : Type 0} (g : Graph E N) where
  -- an edge leads both ways
  pub turned : (e f : E) (u v : N) → Leads g e f u v → Leads g f e v u
  turned e f u v l = record { there = l.back; back = l.there; from = l.to; to = l.from }

  -- the same edge seen from its other half
  pub flip : (e f : E) (u v : N) (S : N → Type 0) → Leads g e f u v → Bridge g e f u v S → Bridge g f e v u (λ w. S w → ⊥)
  flip e f u v S le b = record {
    near = λ n. n b.far;
    far = b.near;
    kept = λ x y a c l nf ne n s. n (b.kept y x c a (turned x y a c l) (λ i. nf (cc (l.there, l.back, le.there, le.back, i))) (λ i. ne (cc (l.there, l.back, le.there, le.back, i))) s);
  }

  -- a walk that avoids the edge stays on its side
  stays : (e f : E) (u v : N) (S : N → Type 0) → Leads g e f u v → Bridge g e f u v S → (es : List E) (a b : N) → Walk g es a b →
      Avoids g e es → S a → S b
  stays e f u v S le br [] a b w av s = subst S w s
  stays e f u v S le br (x ∷ es) a b (y, c, l, w) av s =
      stays e f u v S le br es c b w av.2 (br.kept x y a c l av.0 (λ i. av.1 (cc (l.there, le.back, i))) s)

  -- where each edge is a bridge, no closed walk uses each edge once
  pub no_cycle : EachBridge g → NoCycle g
  no_cycle each e es u (f, v, l, w) once =
      let br : (S : N → Type 0) × Bridge g e f u v S = each e f u v l in
      br.1.near (stays e f u v br.0 l br.1 es v u w once.0 br.1.far)

  module _ (same : (x y : E) → (x ≡ y) ⊎ (x ≢ y)) where
    -- e is x's partner or not
    same_partner : (x e : E) → (g.partner x ≡ Some e) ⊎ (g.partner x ≢ Some e)
    same_partner x e = go (g.partner x) refl
      where
        go : (o : Option E) → g.partner x ≡ o → (g.partner x ≡ Some e) ⊎ (g.partner x ≢ Some e)
        go None is = inr (λ i. cc (is, i))
        go (Some y) is = elim (same y e) [
          | inl i ↦ inl (cc (is, i))
          | inr n ↦ inr (λ i. n (cc (is, i)))
        ]

    -- a walk by some of the steps of es
    Cut : List E → N → N → Type 0
    Cut es a b = (cs : List E) × Walk g cs a b × UsesOnce g cs × ((e : E) → Avoids g e es → Avoids g e cs)

    -- a walk from v's side that uses the edge of x again begins later at the place where x begins
    again : (x y : E) (a c : N) → Leads g x y a c → (es : List E) (z b : N) → Walk g es z b → UsesOnce g es → Avoids g x es ⊎ Cut es a b
    unfolding Cut
    again x y a c l [] z b w once = inl tt
    again x y a c l (t ∷ es) z b (r, m, k, w) once = elim (same t x) [
      | inl i ↦ inr (t ∷ es, (r, m, subst (λ q. Leads g t r q m) (cc (i, k.from, l.from)) k, w), once, λ e v. v)
      | inr n ↦ elim (same_partner t x) [
        | inl i ↦ inr (es, subst (λ q. Walk g es q b) (cc (i, k.there, k.to, l.from)) w, once.1, λ e v. v.2)
        | inr nt ↦ elim (again x y a c l es m b w once.1) [
          | inl v ↦ inl (n, nt, v)
          | inr cut ↦ inr (cut.0, cut.1, cut.2, λ e v. cut.3 e v.2)
        ]
      ]
    ]

    -- a walk can be cut to one that uses each edge once
    cut_walk : (es : List E) (a b : N) → Walk g es a b → Cut es a b
    unfolding Cut
    cut_walk [] a b w = ([], w, tt, λ e v. v)
    cut_walk (x ∷ es) a b (y, c, l, w) =
        let t : (cs : List E) × Walk g cs c b × UsesOnce g cs × ((e : E) → Avoids g e es → Avoids g e cs) = cut_walk es c b w in
        elim (again x y a c l t.0 c b t.1 t.2) [
          | inl v ↦ (x ∷ t.0, (y, c, l, t.1), (v, t.2), λ e q. (q.0, q.1, t.3 e q.2))
          | inr cut ↦ (cut.0, cut.1, cut.2, λ e q. cut.3 e (t.3 e q.2))
        ]

    -- what is reached without the edge of e
    Reached : E → N → N → Type 0
    Reached e v w = (es : List E) × Walk g es v w × Avoids g e es

    -- one more edge at the end of a walk
    one_more : (x y : E) (a b : N) → Leads g x y a b → (e : E) → x ≢ e → g.partner x ≢ Some e → (es : List E) (v : N) → Walk g es v a →
        Avoids g e es → Reached e v b
    unfolding Reached
    one_more x y a b l e ne np [] v w av = (x ∷ [], (y, b, subst (λ q. Leads g x y q b) (sym w) l, refl), (ne, np, tt))
    one_more x y a b l e ne np (t ∷ es) v (r, m, k, w) av =
        let q : (es : List E) × Walk g es m b × Avoids g e es = one_more x y a b l e ne np es m w av.2 in
        (t ∷ q.0, (r, m, k, q.1), (av.0, av.1, q.2))

    -- where there is no cycle, each edge is a bridge
    pub each_bridge : NoCycle g → EachBridge g
    unfolding Reached Cut
    each_bridge acyclic e f u v l = (
      Reached e v,
      record {
        near = λ r. let c : (cs : List E) × Walk g cs v u × UsesOnce g cs × ((x : E) → Avoids g x r.0 → Avoids g x cs) = cut_walk r.0 v u r.1 in
            acyclic e c.0 u (f, v, l, c.1) (c.3 e r.2, c.2);
        far = ([], refl, tt);
        kept = λ x y a b k ne nf r. one_more x y a b k e ne (λ i. nf (cc (i, l.there, l.back, k.there, k.back))) r.0 v r.1 r.2;
      },
    )
