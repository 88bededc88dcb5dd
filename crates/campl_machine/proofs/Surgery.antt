-- Contraction, splitting and removal make no cycle.
use Rattle.std.proofs.Common.{◌≡◌, ◌≢◌, ◌⊎◌, inl, inr, refl, sym, subst, ◌∙◌}
use Rattle.campl_machine.specs.Graph.{Graph, Leads}
use Rattle.campl_machine.proofs.Bridges.{Bridge, EachBridge, turned, flip}
use Rattle.campl_machine.specs.Changes.{Becomes, Contracts, CameFrom, Splits, Removes}

-- contraction
module _ {E N : Type 0} (g h : Graph E N) (rho : E → E) (x y : E) (p m : N) where
  -- a set that goes along with the contraction
  carried : (S : N → Type 0) → (S m → S p) → (a u : N) → Becomes p m a u → S a → S u
  carried S k a u (inl e) s = subst S e s
  carried S k a u (inr q) s = subst S (sym q.1) (k (subst S q.0 s))

  -- and back
  carried_back : (S : N → Type 0) → (S p → S m) → (a u : N) → Becomes p m a u → S u → S a
  carried_back S k a u (inl e) s = subst S (sym e) s
  carried_back S k a u (inr q) s = subst S (sym q.0) (k (subst S q.1 s))

  -- contraction keeps each edge a bridge
  pub shrink : Contracts g h rho x y p m → EachBridge g → EachBridge h
  shrink sh each e f u v l =
      let o : (a : N) × (b : N) × Leads g (rho e) (rho f) a b × Becomes p m a u × Becomes p m b v = sh.old e f u v l in
      let br : (S : N → Type 0) × Bridge g (rho e) (rho f) o.0 o.1 S = each (rho e) (rho f) o.0 o.1 o.2 in
      let ne : (rho e ≢ x) × (rho e ≢ y) = sh.other e f u v l in
      let nf : (rho f ≢ x) × (rho f ≢ y) = sh.other f e v u (turned h e f u v l) in
      let to_p : br.0 m → br.0 p = br.1.kept y x m p (turned g x y p m sh.merged) (λ i. ne.1 (sym i)) (λ i. nf.1 (sym i)) in
      let to_m : br.0 p → br.0 m = br.1.kept x y p m sh.merged (λ i. ne.0 (sym i)) (λ i. nf.0 (sym i)) in (
        br.0,
        record {
          near = λ s. br.1.near (carried_back br.0 to_m o.0 u o.3 s);
          far = carried br.0 to_p o.1 v o.4 br.1.far;
          kept = λ t r a b k nt nr s.
              let q : (c : N) × (d : N) × Leads g (rho t) (rho r) c d × Becomes p m c a × Becomes p m d b = sh.old t r a b k in
              carried br.0 to_p q.1 b q.4 (br.1.kept (rho t) (rho r) q.0 q.1 q.2
              (λ i. nt (sh.one_to_one t r a b e f u v k l i))
              (λ i. nr (sh.one_to_one t r a b f e v u k (turned h e f u v l) i))
              (carried_back br.0 to_m q.0 a q.3 s));
        },
      )

-- splitting
module _ {E N : Type 0} (same : (x y : E) → (x ≡ y) ⊎ (x ≢ y)) (g h : Graph E N) (n k : E) (p c : N) where
  -- the nodes on the new node's side of the new edge
  Side : EachBridge g → N → Type 0
  Side each w = (w ≡ c) ⊎ ((e : E) × (f : E) × (b : N) × (w2 : N) × (a : N) × (l : Leads g e f p a) × CameFrom p c w w2 × Leads h e f c b × (each e f p a l).0 w2)

  -- each node came from one node
  from_once : (u a b : N) → CameFrom p c u a → CameFrom p c u b → a ≡ b
  from_once u a b (inl q) (inl r) = q.1 ∙ sym r.1
  from_once u a b (inl q) (inr r) = absurd (q.0 r.0)
  from_once u a b (inr q) (inl r) = absurd (r.0 q.0)
  from_once u a b (inr q) (inr r) = q.1 ∙ sym r.1

  -- the new edge is a bridge
  new_bridge : Splits g h n k p c → (each : EachBridge g) → Bridge h n k p c (Side each)
  unfolding Side
  new_bridge gr each = record {
    near = λ s. elim s [
      | inl e ↦ gr.apart e
      | inr (e, f, b, w2, a, l, fr, le, q) ↦ (each e f p a l).1.near (subst (each e f p a l).0 (from_once p w2 p fr (inl (gr.apart, refl))) q)
    ];
    far = inl refl;
    kept = λ t r a b lk nn nk s.
        let o : (a2 : N) × (b2 : N) × Leads g t r a2 b2 × CameFrom p c a a2 × CameFrom p c b b2 = gr.old t r a b lk nn nk in
        elim s [
          | inl i ↦
              let l2 : Leads g t r p o.1 = subst (λ z. Leads g t r z o.1) (from_once a o.0 p o.3 (inr (i, refl))) o.2 in
              inr (t, r, b, o.1, o.1, l2, o.4, subst (λ z. Leads h t r z b) i lk, (each t r p o.1 l2).1.far)
          | inr (e, f, z, w2, x, l, fr, le, q) ↦ elim (same t e) [
            | inl i ↦
                let i2 : a ≡ c = cc (i, lk.from, le.from) in
                absurd ((each e f p x l).1.near (subst (each e f p x l).0 (from_once a w2 p fr (inr (i2, refl))) q))
            | inr te ↦ elim (same t f) [
              | inl i ↦ inl (cc (i, lk.there, le.back, lk.to, le.from))
              | inr tf ↦ inr (e, f, z, o.1, x, l, o.4, le, (each e f p x l).1.kept t r o.0 o.1 o.2 te tf (subst (each e f p x l).0 (from_once a w2 o.0 fr o.3) q))
            ]
          ]
        ];
  }

  -- the old edges are bridges still
  old_bridge : Splits g h n k p c → (each : EachBridge g) → (e f : E) (u v : N) → Leads h e f u v → e ≢ n → e ≢ k →
      (S : N → Type 0) × Bridge h e f u v S
  old_bridge gr each e f u v l nn nk =
      let o : (a2 : N) × (b2 : N) × Leads g e f a2 b2 × CameFrom p c u a2 × CameFrom p c v b2 = gr.old e f u v l nn nk in
      let br : (S : N → Type 0) × Bridge g e f o.0 o.1 S = each e f o.0 o.1 o.2 in (
        (λ w. (a : N) × CameFrom p c w a × br.0 a),
        record {
          near = λ s. br.1.near (subst br.0 (from_once u s.0 o.0 s.1 o.3) s.2);
          far = (o.1, o.4, br.1.far);
          kept = λ t r a b lk te tf s. elim (same t n) [
            | inl i ↦
                let ia : a ≡ p = cc (i, lk.from, gr.new.from) in
                let ib : b ≡ c = cc (i, lk.there, gr.new.there, lk.to, gr.new.to) in
                (p, inr (ib, refl), subst br.0 (from_once a s.0 p s.1 (inl ((λ q. gr.apart (sym ia ∙ q)), sym ia))) s.2)
            | inr tn ↦ elim (same t k) [
              | inl i ↦
                  let ia : a ≡ c = cc (i, lk.from, gr.new.to) in
                  let ib : b ≡ p = cc (i, lk.there, gr.new.back, lk.to, gr.new.from) in
                  (p, inl ((λ q. gr.apart (sym ib ∙ q)), sym ib), subst br.0 (from_once a s.0 p s.1 (inr (ia, refl))) s.2)
              | inr tk ↦
                  let q : (a2 : N) × (b2 : N) × Leads g t r a2 b2 × CameFrom p c a a2 × CameFrom p c b b2 = gr.old t r a b lk tn tk in
                  (q.1, q.4, br.1.kept t r q.0 q.1 q.2 te tf (subst br.0 (from_once a s.0 q.0 s.1 q.3) s.2))
            ]
          ];
        },
      )

  -- splitting keeps each edge a bridge
  pub grow : Splits g h n k p c → EachBridge g → EachBridge h
  grow gr each e f u v l = elim (same e n) [
    | inl i ↦
        let b : Bridge h n k p c (Side each) = new_bridge gr each in
        let lf : f ≡ k = cc (i, l.there, gr.new.there) in
        let lu : u ≡ p = cc (i, l.from, gr.new.from) in
        let lv : v ≡ c = cc (i, lf, l.to, gr.new.to) in
        (Side each, rw (i, lf, lu, lv) b)
    | inr en ↦ elim (same e k) [
      | inl i ↦
          let b : Bridge h k n c p (λ w. Side each w → ⊥) = flip h n k p c (Side each) gr.new (new_bridge gr each) in
          let lf : f ≡ n = cc (i, l.there, gr.new.back) in
          let lu : u ≡ c = cc (i, l.from, gr.new.to) in
          let lv : v ≡ p = cc (i, lf, l.to, gr.new.from) in
          ((λ w. Side each w → ⊥), rw (i, lf, lu, lv) b)
      | inr ek ↦ old_bridge gr each e f u v l en ek
    ]
  ]

-- removal
pub remove : {E N : Type 0} (g h : Graph E N) → Removes g h → EachBridge g → EachBridge h
remove {E} {N} g h old each e f u v l =
    let b : (S : N → Type 0) × Bridge g e f u v S = each e f u v (old e f u v l) in
    (b.0, record { near = b.1.near; far = b.1.far; kept = λ x y c d k nx ny s. b.1.kept x y c d (old x y c d k) nx ny s })
