-- The order that is computed is the breadth-first order.
use Rattle.std.proofs.Common.{◌≡◌, ℕ, zero, suc, ◌+◌, ◌≤◌, inl, inr, Bool, true, false, ◌&&◌, eqb, List, [], ◌∷◌, ◌++◌, None, length, refl, sym, subst, arith, add-one, append-nil}
use Rattle.std.proofs.lemmas.Bool.{eqb-true, eq-eqb, and_parts, or_cases, or_right}
use Rattle.std.specs.List.{slice_get, list_any, AllByRecursion}
use Rattle.campl_plug.specs.declared.plug.Link.{Link}
use Rattle.campl_plug.specs.Links.{IsWithin, Joins, Linked}
use Rattle.campl_plug.specs.Tree.{AreReached}
use Rattle.campl_plug.specs.Order.{IsBreadthFirst}
use Rattle.campl_plug.specs.Search.{AreNewNeighbours}
use Rattle.campl_plug.proofs.Places.{get-cases}
use Rattle.campl_plug.proofs.Paths.{linked-parts}
use Rattle.campl_plug.proofs.Found.{FoundBelow, found-none, found-all, found-same, found-more, any-there, any-nowhere}
use Rattle.campl_plug.proofs.Searched.{AreSearched, searched-first, searched-more, once-length, search-is-breadth-first}
use Rattle.campl_plug.specs.TreeOrder.{joins, is_linked, new_neighbours, searched, tree_order_of}

joins-is : (l : Link) (p q : ℕ) → joins l p q ≡ true → Joins l p q
joins-is l p q e = elim (or_cases (eqb l.a p && eqb l.b q) (eqb l.a q && eqb l.b p) e) [
  | inl h ↦ let (a, b) = and_parts (eqb l.a p) (eqb l.b q) h in inl (eqb-true l.a p a, eqb-true l.b q b)
  | inr h ↦ let (a, b) = and_parts (eqb l.a q) (eqb l.b p) h in inr (eqb-true l.a q a, eqb-true l.b p b)
]

is-joins : (l : Link) (p q : ℕ) → Joins l p q → joins l p q ≡ true
is-joins l p q (inl (a, b)) = rw (eq-eqb l.a p a, eq-eqb l.b q b) refl
is-joins l p q (inr (a, b)) = or_right (eqb l.a p && eqb l.b q) (eqb l.a q && eqb l.b p) (rw (eq-eqb l.a q a, eq-eqb l.b p b) refl)

linked-is : (links : List Link) (p q : ℕ) → is_linked links p q ≡ true → Linked links p q
linked-is [] p q e = absurd (let no : ⊥ = cc in no)
linked-is (l ∷ links) p q e = elim (or_cases (joins l p q) (is_linked links p q) e) [
  | inl h ↦ inl (joins-is l p q h)
  | inr h ↦ inr (linked-is links p q h)
]

is-linked : (links : List Link) (p q : ℕ) → Linked links p q → is_linked links p q ≡ true
is-linked [] p q h = absurd h
is-linked (l ∷ links) p q (inl h) = rw (is-joins l p q h) refl
is-linked (l ∷ links) p q (inr h) = or_right (joins l p q) (is_linked links p q) (is-linked links p q h)

module _ (k : ℕ) (links : List Link) where
  -- the new neighbours up to n
  new-found : (order : List ℕ) (p n : ℕ) → n ≤ k → FoundBelow k links order p (n + 1) (new_neighbours n links order p)
  new-found order p zero h = found-none k links order p
  new-found order p (suc n) h =
      go (subst (λ b. FoundBelow k links order p b (new_neighbours n links order p)) (add-one n) (new-found order p n (omega (arith, h))))
      (is_linked links p (suc n)) (list_any (λ x. eqb x (suc n)) order) refl refl
    where
      go : FoundBelow k links order p (suc n) (new_neighbours n links order p) → (a b : Bool) → is_linked links p (suc n) ≡ a → list_any (λ x. eqb x (suc n)) order ≡ b
          → FoundBelow k links order p (suc n + 1) (new_neighbours (suc n) links order p)
      go old true true i j = rw (i, j) (subst (FoundBelow k links order p (suc n + 1)) (sym (append-nil (new_neighbours n links order p)))
          (found-same k links order p (suc n) (new_neighbours n links order p) old (λ l. any-there order (suc n) j)))
      go old true false i j = rw (i, j)
          (found-more k links order p (suc n) (new_neighbours n links order p) old (record { low = omega arith; high = h }) (linked-is links p (suc n) i) (λ m. any-nowhere order (suc n) m j))
      go old false b i j = rw i (subst (FoundBelow k links order p (suc n + 1)) (sym (append-nil (new_neighbours n links order p)))
          (found-same k links order p (suc n) (new_neighbours n links order p) old (λ l. absurd (let e : is_linked links p (suc n) ≡ true = is-linked links p (suc n) l in let no : ⊥ = cc in no))))

  are-new : (order : List ℕ) (p : ℕ) → AreNewNeighbours k links order p (new_neighbours k links order p)
  are-new order p = found-all k links order p (k + 1) (new_neighbours k links order p) (omega arith) (new-found order p k (omega arith))

  module _ (within : AllByRecursion (IsWithin k) links) where
    past-end : (order : List ℕ) (i : ℕ) → slice_get order i ≡ None → length order ≤ i
    past-end [] i e = omega arith
    past-end (x ∷ order) zero e = absurd (let no : ⊥ = cc in no)
    past-end (x ∷ order) (suc i) e = let h : length order ≤ i = past-end order i e in omega (arith, h)

    ends : (n : ℕ) (order : List ℕ) (i : ℕ) → k ≤ n + i → AreSearched k links i order
        → AreSearched k links (length (searched n k links order i)) (searched n k links order i)
    ends zero order i h (up, s) =
        let few : length order ≤ k = once-length k order s.parts_alone s.once in
        let e : i ≡ length order = omega (arith, h, few, s.gone) in
        subst (λ j. AreSearched k links j order) e (up, s)
    ends (suc n) order i h (up, s) = elim (get-cases order i) [
      | inl x ↦ let (p, at) = x in rw (at, searched) (ends n (order ++ new_neighbours k links order p) (suc i) (omega (arith, h))
          (searched-more k links i order up s p at (new_neighbours k links order p) (are-new order p) (λ q r l. (linked-parts k links within q r l).1)))
      | inr at ↦ rw (at, searched) (
          let e : i ≡ length order = let g : length order ≤ i = past-end order i at in omega (arith, g, s.gone) in
          subst (λ j. AreSearched k links j order) e (up, s))
    ]

    -- where each part is reached
    pub order-is-breadth-first : 1 ≤ k → AreReached k links → IsBreadthFirst k links (tree_order_of k links)
    order-is-breadth-first some reached =
        let (up, s) = ends k (1 ∷ []) 0 (omega arith) (searched-first k links some) in
        search-is-breadth-first k links (tree_order_of k links) up s reached
