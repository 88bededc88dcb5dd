-- In the breadth-first order each part but the first has one link to those before it.
use Rattle.std.proofs.Common.{◌≡◌, ℕ, zero, suc, ◌+◌, ◌<◌, ◌≤◌, ◌⊎◌, inl, inr, List, [], ◌∷◌, Some, length, refl, sym, ap, subst, ◌∙◌, arith, add-one}
use Rattle.std.specs.List.{slice_get, AllByRecursion}
use Rattle.std.proofs.lemmas.Bool.{cases_eq}
use Rattle.campl_plug.specs.declared.plug.Link.{Link}
use Rattle.campl_plug.specs.Links.{IsPart, IsWithin, Joins, Path, Joined}
use Rattle.campl_plug.specs.Tree.{IsTree}
use Rattle.campl_plug.specs.Order.{IsDistance, IsPredecessor, IsBefore, ComesFirst, IsBreadthFirst, IsLinkBack, HasOneLinkBack}
use Rattle.campl_plug.proofs.Places.{get-there, get-one}
use Rattle.campl_plug.proofs.Paths.{linked-parts, at-linked, joined-here, joined-more}
use Rattle.campl_plug.proofs.Trees.{without, linked-without, none-spared}

pub order-cases : (i j : ℕ) → (i < j) ⊎ ((i ≡ j) ⊎ (j < i))
order-cases zero zero = inr (inl refl)
order-cases zero (suc j) = inl (omega arith)
order-cases (suc i) zero = inr (inr (omega arith))
order-cases (suc i) (suc j) = elim (order-cases i j) [
  | inl h ↦ inl (omega (arith, h))
  | inr h ↦ elim h [ inl e ↦ inr (inl (ap suc e)) | inr g ↦ inr (inr (omega (arith, g))) ]
]

pub one-distance : (links : List Link) (p m n : ℕ) → IsDistance links p m → IsDistance links p n → m ≡ n
one-distance links p m n d e = let a : m ≤ n = d.shortest n e.path in let b : n ≤ m = e.shortest m d.path in omega (arith, a, b)

pub first-distance : (links : List Link) → IsDistance links 1 0
first-distance links = record { path = refl; shortest = λ m path. omega arith }

-- parts of which one comes first have a distance
pub distances : (links : List Link) (order : List ℕ) (p q : ℕ) → ComesFirst links order p q → ((m : ℕ) × IsDistance links p m) × ((n : ℕ) × IsDistance links q n)
distances links order p q (inl (m, n, d, e, h)) = ((m, d), (n, e))
distances links order p q (inr ((n, d, e), key)) = ((n, d), (n, e))

-- the one that comes first isn't farther
pub no-farther : (links : List Link) (order : List ℕ) (p q m n : ℕ) → ComesFirst links order p q → IsDistance links p m → IsDistance links q n → m ≤ n
no-farther links order p q m n (inl (i, j, d, e, h)) a b =
    let x : i ≡ m = one-distance links p i m d a in
    let y : j ≡ n = one-distance links q j n e b in
    omega (arith, x, y, h)
no-farther links order p q m n (inr ((i, d, e), key)) a b =
    let x : i ≡ m = one-distance links p i m d a in
    let y : i ≡ n = one-distance links q i n e b in
    omega (arith, x, y)

module _ (k : ℕ) (links : List Link) (order : List ℕ) (b : IsBreadthFirst k links order) where
  pub not-both : (p q : ℕ) → IsBefore order p q → IsBefore order q p → ⊥
  not-both p q (i, j, h, ei, ej) (m, n, g, em, en) =
      let x : i ≡ n = b.once i n p ei en in
      let y : j ≡ m = b.once j m q ej em in
      absurd (omega (arith, x, y, h, g))

  module _ (within : AllByRecursion (IsWithin k) links) (some : 1 ≤ k) where
    first-part : IsPart k 1
    first-part = record { low = omega arith; high = some }

    pub has-distance : (q : ℕ) → IsPart k q → (n : ℕ) × IsDistance links q n
    has-distance q part = elim (cases_eq 1 q) [
      | inl e ↦ (0, subst (λ z. IsDistance links z 0) e (first-distance links))
      | inr ne ↦
          let (i, ei) = b.each_part 1 first-part in
          let (j, ej) = b.each_part q part in
          elim (order-cases i j) [
            | inl h ↦ (distances links order 1 q (b.sorted 1 q (i, j, h, ei, ej))).1
            | inr h ↦ elim h [
              | inl e ↦ absurd (ne (get-one order j 1 q (subst (λ z. slice_get order z ≡ Some 1) e ei) ej))
              | inr g ↦ (distances links order q 1 (b.sorted q 1 (j, i, g, ej, ei))).0
            ]
          ]
    ]

    -- the first part of the order is part 1
    pub starts-at-one : slice_get order 0 ≡ Some 1
    starts-at-one = let (i, e) = b.each_part 1 first-part in go i e
      where
        go : (i : ℕ) → slice_get order i ≡ Some 1 → slice_get order 0 ≡ Some 1
        go zero e = e
        go (suc i) e =
            let (p, f) = get-there order 0 (long order i e) in
            let c : ComesFirst links order p 1 = b.sorted p 1 (0, suc i, omega arith, f, e) in
            let (m, d) = (distances links order p 1 c).0 in
            let z : m ≤ 0 = no-farther links order p 1 m 0 c d (first-distance links) in
            let s : m ≡ 0 = omega (arith, z) in
            let path : Path links 0 1 p = subst (λ n. Path links n 1 p) s d.path in
            absurd (let t : suc i ≡ 0 = b.once (suc i) 0 1 e (f ∙ ap Some (sym path)) in omega (arith, t))
          where
            long : (xs : List ℕ) (i : ℕ) → slice_get xs (suc i) ≡ Some 1 → 0 < length xs
            long [] i e = absurd (let z : ⊥ = cc in z)
            long (x ∷ xs) i e = omega arith

    -- a predecessor stands before its part
    pub predecessor-before : (r q : ℕ) → IsPredecessor links r q → IsBefore order r q
    predecessor-before r q p =
        let (rp, qp) = linked-parts k links within r q p.linked in
        let (n, dr, dq) = p.nearer in
        let (i, ei) = b.each_part r rp in
        let (j, ej) = b.each_part q qp in
        elim (order-cases i j) [
          | inl h ↦ (i, j, h, ei, ej)
          | inr h ↦ elim h [
            | inl e ↦ absurd (
                let s : r ≡ q = get-one order j r q (subst (λ z. slice_get order z ≡ Some r) e ei) ej in
                let t : n ≡ n + 1 = one-distance links q n (n + 1) (subst (λ z. IsDistance links z n) s dr) dq in
                omega (arith, t))
            | inr g ↦ absurd (
                let t : n + 1 ≤ n = no-farther links order q r (n + 1) n (b.sorted q r (j, i, g, ej, ei)) dq dr in
                omega (arith, t))
          ]
        ]

    -- and each part but part 1 has one
    pub predecessor-of : (q : ℕ) → IsPart k q → (q ≡ 1 → ⊥) → (r : ℕ) × IsPredecessor links r q
    predecessor-of q part ne = let (n, d) = has-distance q part in go n d
      where
        go : (n : ℕ) → IsDistance links q n → (r : ℕ) × IsPredecessor links r q
        go zero d = absurd (ne (sym d.path))
        go (suc n) d =
            let (r, path, last) = d.path in
            let near : IsDistance links r n = record { path = path; shortest = λ m p. (let h : suc n ≤ suc m = d.shortest (suc m) (r, p, last) in omega (arith, h)) } in
            (r, record { linked = last; nearer = (n, near, subst (IsDistance links q) (sym (add-one n)) d) })

    pub link-back : (q : ℕ) → IsPart k q → (q ≡ 1 → ⊥) → (i : ℕ) × IsLinkBack links order q i
    link-back q part ne =
        let (r, p) = predecessor-of q part ne in
        let (i, l, at, j) = at-linked links r q p.linked in
        (i, (l, r, at, j, predecessor-before r q p))

    -- a link that joins one pair and another joins the same
    same-ends : (l : Link) (p q r s : ℕ) → Joins l p q → Joins l r s → ((p ≡ r) × (q ≡ s)) ⊎ ((p ≡ s) × (q ≡ r))
    same-ends l p q r s (inl (a, c)) (inl (d, e)) = inl (sym a ∙ d, sym c ∙ e)
    same-ends l p q r s (inl (a, c)) (inr (d, e)) = inr (sym a ∙ d, sym c ∙ e)
    same-ends l p q r s (inr (a, c)) (inl (d, e)) = inr (sym c ∙ e, sym a ∙ d)
    same-ends l p q r s (inr (a, c)) (inr (d, e)) = inl (sym c ∙ e, sym a ∙ d)

    module _ (q i j : ℕ) (one : IsLinkBack links order q i) (two : IsLinkBack links order q j) (ne : i ≡ j → ⊥) where
      rest : List Link
      rest = without j links

      -- without link j each part is still reached, by way of link i
      reach : (fuel m r : ℕ) → m < fuel → slice_get order m ≡ Some r → Joined rest 1 r
      unfolding rest
      reach zero m r h e = absurd (omega (arith, h))
      reach (suc fuel) m r h e = elim (cases_eq r 1) [
        | inl s ↦ subst (Joined rest 1) (sym s) (joined-here rest 1)
        | inr off ↦
            let (s, ps) = predecessor-of r (b.parts_alone m r e) off in
            let (x, y, lt, ex, ey) = predecessor-before s r ps in
            let at-m : y ≡ m = b.once y m r ey e in
            let to-s : Joined rest 1 s = reach fuel x s (omega (arith, at-m, lt, h)) ex in
            let (t, lt', att, jt) = at-linked links s r ps.linked in
            let (l, p, atj, jj, before) = two in
            elim (cases_eq t j) [
              | inr other ↦ joined-more rest 1 s r to-s (linked-without links j t lt' s r att other jt)
              | inl same ↦
                  let ls : lt' ≡ l = get-one links j lt' l (subst (λ z. slice_get links z ≡ Some lt') same att) atj in
                  elim (same-ends l s r p q (subst (λ z. Joins z s r) ls jt) jj) [
                    | inl (sp, rq) ↦
                        let (li, p1, ati, ji, (u, v, uv, eu, ev)) = one in
                        let v-m : v ≡ m = b.once v m q ev (e ∙ ap Some rq) in
                        let to-p : Joined rest 1 p1 = reach fuel u p1 (omega (arith, v-m, uv, h)) eu in
                        subst (Joined rest 1) (sym rq) (joined-more rest 1 p1 q to-p (linked-without links j i li p1 q ati ne ji))
                    | inr (sq, rp) ↦
                        let back : IsBefore order p q = before in
                        absurd (not-both p q back (x, y, lt, ex ∙ ap Some sq, ey ∙ ap Some rp))
                  ]
            ]
      ]

      pub two-links-back : IsTree k links → ⊥
      unfolding rest
      two-links-back tree =
          let (l, p, atj, jj, before) = two in
          none-spared k links within some tree j l atj (λ r part. let (m, e) = b.each_part r part in reach (suc m) m r (omega arith) e)

    pub one-link-back : IsTree k links → (q i j : ℕ) → IsLinkBack links order q i → IsLinkBack links order q j → i ≡ j
    one-link-back tree q i j one two = elim (cases_eq i j) [ inl e ↦ e | inr ne ↦ absurd (two-links-back q i j one two ne tree) ]

    pub has-one-link-back : IsTree k links → (q : ℕ) → IsPart k q → (q ≡ 1 → ⊥) → HasOneLinkBack links order q
    has-one-link-back tree q part ne =
        let (i, back) = link-back q part ne in
        (i, back, λ j other. one-link-back tree q j i other back)

    -- a part of a tree has one predecessor
    pub one-predecessor : IsTree k links → (q r s : ℕ) → IsPredecessor links r q → IsPredecessor links s q → r ≡ s
    one-predecessor tree q r s pr ps =
        let (i, l, at, j) = at-linked links r q pr.linked in
        let (i', l', at', j') = at-linked links s q ps.linked in
        let same : i ≡ i' = one-link-back tree q i i' (l, r, at, j, predecessor-before r q pr) (l', s, at', j', predecessor-before s q ps) in
        let ls : l' ≡ l = get-one links i l' l (subst (λ z. slice_get links z ≡ Some l') (sym same) at') at in
        elim (same-ends l r q s q j (subst (λ z. Joins z s q) ls j')) [
          | inl (e, f) ↦ e
          | inr (e, f) ↦ e ∙ f
        ]
