-- The walk of progress: down the side of the graph that lies beyond the edge at which a node points.
use Rattle.std.proofs.Common.{◌≡◌, ◌≢◌, ℕ, zero, suc, ◌≤◌, List, [], ◌∷◌, length, ◌⊎◌, inl, inr, refl, sym, ap, subst, ◌∙◌, arith, Option, Some, None, Bool, true, false}
use Rattle.campl_machine.specs.Graph.{Graph, Leads, NoCycle}
use Rattle.campl_machine.proofs.Bridges.{Bridge, EachBridge, each_bridge}
use Rattle.campl_machine.specs.Names.{TellsApart}
use Rattle.campl_machine.proofs.Updates.{decides}
use Rattle.campl_machine.specs.Progress.{Within, Points}

-- a node that is taken out of the list
module _ {E N : Type 0} (g : Graph E N) (same_node : (x y : N) → (x ≡ y) ⊎ (x ≢ y)) (point : N → Option E) where
  -- the list without the first x
  without : List N → N → List N
  without [] x = []
  without (y ∷ ys) x = elim (same_node y x) [ inl e ↦ ys | inr ne ↦ y ∷ without ys x ]

  -- it is one shorter where x is in it
  without_shorter : (ys : List N) (x : N) → Within ys x → suc (length (without ys x)) ≡ length ys
  unfolding without
  without_shorter [] x w = absurd w
  without_shorter (y ∷ ys) x w = elim (same_node y x) as (λ d. suc (length {A = N} (elim d [ inl e ↦ ys | inr ne ↦ y ∷ without ys x ])) ≡ suc (length ys)) [
    | inl e ↦ refl
    | inr ne ↦ elim w [ inl e ↦ absurd (ne (sym e)) | inr v ↦ ap suc (without_shorter ys x v) ]
  ]

  -- and has the others
  without_keeps : (ys : List N) (x z : N) → z ≢ x → Within ys z → Within (without ys x) z
  unfolding without
  without_keeps [] x z ne w = w
  without_keeps (y ∷ ys) x z ne w = elim (same_node y x) as (λ d. Within (elim d [ inl e ↦ ys | inr n ↦ y ∷ without ys x ]) z) [
    | inl e ↦ elim w [ inl q ↦ absurd (ne (q ∙ e)) | inr v ↦ v ]
    | inr n ↦ elim w [ inl q ↦ inl q | inr v ↦ inr (without_keeps ys x z ne v) ]
  ]

  -- each node of S points along an edge to a node of S, and no edge is pointed at from both halves
  pub record Goes (S : N → Type 0) : Type 0 where
    pub on : (u : N) → S u → (e : E) × (f : E) × (v : N) × (point u ≡ Some e) × Leads g e f u v × S v
    pub once : (u v : N) (e f : E) → S u → S v → point u ≡ Some e → point v ≡ Some f → Leads g e f u v → ⊥

  -- finitely many nodes do not all point on
  pub descend : (k : ℕ) (ys : List N) → length ys ≤ k → EachBridge g → (S : N → Type 0) → ((u : N) → S u → Within ys u) → Goes S →
      (u : N) → S u → ⊥
  descend zero ys short each S within goes u s = absurd (omega (arith, without_shorter ys u (within u s)))
  descend (suc k) ys short each S within goes u s =
      let o : (e : E) × (f : E) × (v : N) × (point u ≡ Some e) × Leads g e f u v × S v = goes.on u s in
      let br : (S : N → Type 0) × Bridge g o.0 o.1 u o.2 S = each o.0 o.1 u o.2 o.4 in
      descend k (without ys u) (omega (arith, without_shorter ys u (within u s))) each (λ w. S w × br.0 w)
      (λ w q. without_keeps ys u w (λ i. br.1.near (subst br.0 i q.1)) (within w q.0))
      (record {
        on = λ w q.
            let r : (e : E) × (f : E) × (v : N) × (point w ≡ Some e) × Leads g e f w v × S v = goes.on w q.0 in (
              r.0,
              r.1,
              r.2,
              r.3,
              r.4,
              (
                r.5,
                br.1.kept r.0 r.1 w r.2 r.4
                    (λ i. br.1.near (subst br.0 (cc (i, r.4.from, o.4.from)) q.1))
                    (λ i. goes.once u w o.0 o.1 s q.0 o.3 (cc (i, r.3)) (subst (λ z. Leads g o.0 o.1 u z) (cc (i, o.4.to, r.4.from)) o.4))
                    q.1,
              ),
            );
        once = λ a b e f qa qb pa pb l. goes.once a b e f qa.0 qb.0 pa pb l;
      })
      o.2 (o.5, br.1.far)

-- among finitely many nodes one is found that points at nothing, or all point on
module _ {E N : Type 0} (g : Graph E N) (same_node : (x y : N) → (x ≡ y) ⊎ (x ≢ y)) (there : N → Bool) (point : N → Option E) where
  -- a node that is there and points at nothing
  unfoldable pub Finds : Type 0
  Finds = (u : N) × (there u ≡ true) × (point u ≡ None)

  -- a node points at nothing, or along an edge if it is there
  stops : (o : Option E) (b : Bool) (u : N) → there u ≡ b → point u ≡ o → Finds ⊎ (there u ≡ true → (e : E) × (point u ≡ Some e))
  unfolding Finds
  stops None true u tu pu = inl (u, tu, pu)
  stops None false u tu pu = inr (λ h. absurd (cc (tu, h)))
  stops (Some e) b u tu pu = inr (λ h. (e, pu))

  -- some listed node points at nothing, or all that are there point
  look : (ys : List N) → Finds ⊎ ((u : N) → Within ys u → there u ≡ true → (e : E) × (point u ≡ Some e))
  look [] = inr (λ u w. absurd w)
  look (y ∷ ys) = elim (stops (point y) (there y) y refl refl) [
    | inl f ↦ inl f
    | inr h ↦ elim (look ys) [
      | inl f ↦ inl f
      | inr k ↦ inr (λ u w t. elim w [ inl i ↦ subst (λ z. there z ≡ true → (e : E) × (point z ≡ Some e)) (sym i) h t | inr v ↦ k u v t ])
    ]
  ]

  -- progress, where each edge is a bridge
  pub progress : (ys : List N) → Points g ys there point → EachBridge g → (u : N) → there u ≡ true → Finds
  progress ys points each u tu = elim (look ys) [
    | inl f ↦ f
    | inr k ↦ absurd (descend g same_node point (length ys) ys (omega arith) each (λ w. there w ≡ true) points.listed
        (record {
          on = λ w t. let e : (e : E) × (point w ≡ Some e) = k w (points.listed w t) t in
              let l : (f : E) × (v : N) × Leads g e.0 f w v × (there v ≡ true) = points.along w e.0 t e.1 in
              (e.0, l.0, l.1, e.1, l.2, l.3);
          once = λ a b e f qa qb pa pb l. points.once a b e f pa pb l;
        }) u tu)
  ]

-- progress in a graph with no cycle
pub some-stops : {E N : Type 0} (same_edge : E → E → Bool) (same_node : N → N → Bool) → TellsApart same_edge → TellsApart same_node →
    (g : Graph E N) (ys : List N) (there : N → Bool) (point : N → Option E) →
    Points g ys there point → NoCycle g → (u : N) → there u ≡ true → (v : N) × (there v ≡ true) × (point v ≡ None)
unfolding Finds
some-stops same_edge same_node edges nodes g ys there point points forest u tu =
    progress g (decides same_node nodes) there point ys points (each_bridge g (decides same_edge edges) forest) u tu
