-- There is one breadth-first order of a tree.
use Rattle.std.proofs.Common.{◌≡◌, ℕ, zero, suc, ◌+◌, ◌<◌, ◌≤◌, ◌⊎◌, inl, inr, List, Some, None, length, sym, ap, subst, ◌∙◌, arith}
use Rattle.std.specs.List.{slice_get, AllByRecursion}
use Rattle.std.proofs.lemmas.Option.{slice_get_within}
use Rattle.campl_plug.specs.declared.plug.Link.{Link}
use Rattle.campl_plug.specs.Links.{IsWithin}
use Rattle.campl_plug.specs.Tree.{IsTree}
use Rattle.campl_plug.specs.Order.{IsDistance, IsPredecessor, IsBefore, HasEarlierPredecessor, HasLowerNumber, ComesFirst, IsBreadthFirst}
use Rattle.campl_plug.proofs.Places.{get-there, get-one, get-cases, same-places}
use Rattle.campl_plug.proofs.Peeled.{order-cases, one-distance, no-farther, not-both, has-distance, one-predecessor}

module _ (k : ℕ) (links : List Link) (within : AllByRecursion (IsWithin k) links) (some : 1 ≤ k) (tree : IsTree k links)
    (o1 o2 : List ℕ) (b1 : IsBreadthFirst k links o1) (b2 : IsBreadthFirst k links o2) where
  same-predecessor : (q r s : ℕ) → IsPredecessor links r q → IsPredecessor links s q → r ≡ s
  same-predecessor = one-predecessor k links o1 b1 within some tree

  -- the keys can't put p first in one order and q first in the other, if those of their predecessors don't
  keys-agree : (p q : ℕ) → ((r s : ℕ) → IsPredecessor links r p → IsPredecessor links s q → IsBefore o1 r s → IsBefore o2 r s)
      → (HasEarlierPredecessor links o1 p q ⊎ HasLowerNumber links p q) → (HasEarlierPredecessor links o2 q p ⊎ HasLowerNumber links q p) → ⊥
  keys-agree p q keeps (inl (r, s, pr, ps, rs)) (inl (s', r', ps', pr', sr)) =
      let x : s' ≡ s = same-predecessor q s' s ps' ps in
      let y : r' ≡ r = same-predecessor p r' r pr' pr in
      not-both k links o2 b2 r s (keeps r s pr ps rs) (subst (λ z. IsBefore o2 z r) x (subst (IsBefore o2 s') y sr))
  keys-agree p q keeps (inl (r, s, pr, ps, rs)) (inr (t, tq, tp, h)) =
      let x : s ≡ t = same-predecessor q s t ps tq in
      let y : r ≡ t = same-predecessor p r t pr tp in
      let self : IsBefore o1 t t = subst (λ z. IsBefore o1 z t) y (subst (IsBefore o1 r) x rs) in
      not-both k links o1 b1 t t self self
  keys-agree p q keeps (inr (t, tp, tq, h)) (inl (s, r, ps, pr, sr)) =
      let x : s ≡ t = same-predecessor q s t ps tq in
      let y : r ≡ t = same-predecessor p r t pr tp in
      let self : IsBefore o2 t t = subst (λ z. IsBefore o2 z t) x (subst (IsBefore o2 s) y sr) in
      not-both k links o2 b2 t t self self
  keys-agree p q keeps (inr (t, tp, tq, h)) (inr (u, uq, up, g)) = absurd (omega (arith, h, g))

  firsts-agree : (p q n : ℕ) → IsDistance links p n → ((r s : ℕ) → IsPredecessor links r p → IsPredecessor links s q → IsBefore o1 r s → IsBefore o2 r s)
      → ComesFirst links o1 p q → ComesFirst links o2 q p → ⊥
  firsts-agree p q n d keeps (inl (x, y, dx, dy, h)) c = absurd (let g : y ≤ x = no-farther links o2 q p y x c dy dx in omega (arith, h, g))
  firsts-agree p q n d keeps c (inl (y, x, dy, dx, h)) = absurd (let g : x ≤ y = no-farther links o1 p q x y c dx dy in omega (arith, h, g))
  firsts-agree p q n d keeps (inr (near, key)) (inr (near', key')) = keys-agree p q keeps key key'

  -- what stands before another in one order does so in the other
  keeps : (fuel n : ℕ) → n < fuel → (p q : ℕ) → IsDistance links p n → IsBefore o1 p q → IsBefore o2 p q
  keeps zero n h p q d before = absurd (omega (arith, h))
  keeps (suc fuel) n h p q d (i, j, lt, ei, ej) =
      let (x, ex) = b2.each_part p (b1.parts_alone i p ei) in
      let (y, ey) = b2.each_part q (b1.parts_alone j q ej) in
      elim (order-cases x y) [
        | inl g ↦ (x, y, g, ex, ey)
        | inr g ↦ elim g [
          | inl e ↦ absurd (
              let s : p ≡ q = get-one o2 y p q (subst (λ z. slice_get o2 z ≡ Some p) e ex) ey in
              let t : i ≡ j = b1.once i j q (ei ∙ ap Some s) ej in
              omega (arith, t, lt))
          | inr f ↦ absurd (firsts-agree p q n d
              (λ r s pr ps rs.
              let (m, dr, dp) = pr.nearer in
              let t : m + 1 ≡ n = one-distance links p (m + 1) n dp d in
              keeps fuel m (omega (arith, t, h)) r s dr rs)
              (b1.sorted p q (i, j, lt, ei, ej)) (b2.sorted q p (y, x, f, ey, ex)))
        ]
      ]

  before-kept : (p q : ℕ) → IsBefore o1 p q → IsBefore o2 p q
  before-kept p q (i, j, lt, ei, ej) =
      let (n, d) = has-distance k links o1 b1 within some p (b1.parts_alone i p ei) in
      keeps (suc n) n (omega arith) p q d (i, j, lt, ei, ej)

  -- up to each place the two orders are the same
  places : (fuel i : ℕ) → i < fuel → slice_get o1 i ≡ slice_get o2 i
  places zero i h = absurd (omega (arith, h))
  places (suc fuel) i h = elim (get-cases o1 i) [
    | inl (p, e) ↦
        let (j, ej) = b2.each_part p (b1.parts_alone i p e) in
        elim (order-cases j i) [
          | inl g ↦ absurd (
              let f : slice_get o1 j ≡ Some p = places fuel j (omega (arith, g, h)) ∙ ej in
              let t : j ≡ i = b1.once j i p f e in
              omega (arith, t, g))
          | inr g ↦ elim g [
            | inl t ↦ e ∙ sym (subst (λ z. slice_get o2 z ≡ Some p) t ej)
            | inr late ↦ absurd (later i j p e ej late (λ m small. places fuel m (omega (arith, small, h))))
          ]
        ]
    | inr none ↦ elim (get-cases o2 i) [
      | inr none' ↦ none ∙ sym none'
      | inl (q, e) ↦
          let (m, em) = b1.each_part q (b2.parts_alone i q e) in
          elim (order-cases m i) [
            | inl g ↦ absurd (
                let f : slice_get o2 m ≡ Some q = sym (places fuel m (omega (arith, g, h))) ∙ em in
                let t : m ≡ i = b2.once m i q f e in
                omega (arith, t, g))
            | inr g ↦ absurd (
                let small : m < length o1 = slice_get_within o1 m q em in
                let low : i < length o1 = elim g [ inl t ↦ omega (arith, t, small) | inr t ↦ omega (arith, t, small) ] in
                let (x, ex) = get-there o1 i low in
                let z : Some x ≡ None = sym ex ∙ none in
                let no' : ⊥ = cc in no')
          ]
    ]
  ]
    where
      later : (i j p : ℕ) → slice_get o1 i ≡ Some p → slice_get o2 j ≡ Some p → i < j → ((m : ℕ) → m < i → slice_get o1 m ≡ slice_get o2 m) → ⊥
      later i j p e ej late same =
          let (q, eq) = get-there o2 i (let s : j < length o2 = slice_get_within o2 j p ej in omega (arith, s, late)) in
          let (m, em) = b1.each_part q (b2.parts_alone i q eq) in
          elim (order-cases m i) [
            | inl g ↦
                let f : slice_get o2 m ≡ Some q = sym (same m g) ∙ em in
                let t : m ≡ i = b2.once m i q f eq in
                absurd (omega (arith, t, g))
            | inr g ↦ elim g [
              | inl t ↦
                  let s : q ≡ p = get-one o1 i q p (subst (λ z. slice_get o1 z ≡ Some q) t em) e in
                  let u : i ≡ j = b2.once i j p (eq ∙ ap Some s) ej in
                  absurd (omega (arith, u, late))
              | inr g' ↦
                  let (x, y, xy, ex, ey) = before-kept p q (i, m, g', e, em) in
                  let u : x ≡ j = b2.once x j p ex ej in
                  let v : y ≡ i = b2.once y i q ey eq in
                  absurd (omega (arith, u, v, xy, late))
            ]
          ]

  pub one-order : o1 ≡ o2
  one-order = same-places o1 o2 (λ i. places (suc i) i (omega arith))
