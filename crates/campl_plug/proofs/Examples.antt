-- Worked plugs.
use Rattle.std.proofs.Common.{◌≡◌, ℕ, zero, suc, ◌<◌, ◌≤◌, ◌⊎◌, inl, inr, eqb, if◌then◌else◌, List, [], ◌∷◌, Some, refl, sym, ap, subst, ◌∙◌, arith}
use Rattle.std.specs.List.{slice_get}
use Rattle.campl_plug.specs.declared.plug.Link.{Link}
use Rattle.campl_plug.specs.Links.{IsPart, Joins, Linked, Path, Joined}
use Rattle.campl_plug.specs.Tree.{AreReached, IsTree, ClosesCycle, IsFirstCycle, IsLeastApart}
use Rattle.campl_plug.specs.Order.{IsBefore, IsBreadthFirst}
use Rattle.campl_plug.specs.Labels.{relabel_of}
use Rattle.campl_plug.proofs.Paths.{joined-labels}
use Rattle.campl_plug.proofs.Searched.{Searched, search-is-breadth-first}

abbrev link : ℕ → ℕ → Link
link a b = record { a = a; b = b }

-- 1-3, 3-2
abbrev chain : List Link
chain = link 1 3 ∷ link 3 2 ∷ []

-- 1-2, 1-2
abbrev doubled : List Link
doubled = link 1 2 ∷ link 1 2 ∷ []

-- either end of a link may be named first
turned : Joins (link 1 3) 3 1
turned = inr (refl, refl)

step : Linked chain 1 3
step = inl (inl (refl, refl))

-- part 2 is two links away from part 1
two-steps : Path chain 2 1 2
two-steps = (3, (1, refl, step), inr (inl (inl (refl, refl))))

chain-reached : AreReached 3 chain
chain-reached zero part = absurd (let h : 1 ≤ 0 = part.low in omega (arith, h))
chain-reached (suc zero) part = (0, refl)
chain-reached (suc (suc zero)) part = (2, two-steps)
chain-reached (suc (suc (suc zero))) part = (1, (1, refl, step))
chain-reached (suc (suc (suc (suc p)))) part = absurd (omega (arith, part.high))

chain-is-tree : IsTree 3 chain
chain-is-tree = record { count = refl; reached = chain-reached }

-- its order is 1, 3, 2, in which each part came by the one before it
abbrev order : List ℕ
order = 1 ∷ 3 ∷ 2 ∷ []

abbrev up : ℕ → ℕ
up zero = 0
up (suc j) = j

-- the place of each part
abbrev place : ℕ → ℕ
place p = if eqb p 1 then 0 else if eqb p 3 then 1 else 2

at : (i p : ℕ) → slice_get order i ≡ Some p → (i ≡ place p) × IsPart 3 p
at zero p e = let s : 1 ≡ p = cc in subst (λ z. (0 ≡ place z) × IsPart 3 z) s (refl, record { low = omega arith; high = omega arith })
at (suc zero) p e = let s : 3 ≡ p = cc in subst (λ z. (1 ≡ place z) × IsPart 3 z) s (refl, record { low = omega arith; high = omega arith })
at (suc (suc zero)) p e = let s : 2 ≡ p = cc in subst (λ z. (2 ≡ place z) × IsPart 3 z) s (refl, record { low = omega arith; high = omega arith })
at (suc (suc (suc i))) p e = absurd (let z : ⊥ = cc in z)

later : (j q : ℕ) → slice_get order j ≡ Some q → 0 < j → (up j < 3) × (up j < j)
later zero q e h = absurd (omega (arith, h))
later (suc zero) q e h = (omega arith, omega arith)
later (suc (suc zero)) q e h = (omega arith, omega arith)
later (suc (suc (suc j))) q e h = absurd (let z : ⊥ = cc in z)

came : (j p q : ℕ) → slice_get order j ≡ Some q → 0 < j → slice_get order (up j) ≡ Some p → Linked chain p q
came zero p q e h f = absurd (omega (arith, h))
came (suc zero) p q e h f = let x : 3 ≡ q = cc in let y : 1 ≡ p = cc in inl (inl (y, x))
came (suc (suc zero)) p q e h f = let x : 2 ≡ q = cc in let y : 3 ≡ p = cc in inr (inl (inl (y, x)))
came (suc (suc (suc j))) p q e h f = absurd (let z : ⊥ = cc in z)

rises : (i j p q : ℕ) → 0 < i → i < j → (up i < up j) ⊎ ((up i ≡ up j) × (p < q))
rises zero j p q h g = absurd (omega (arith, h))
rises (suc i) zero p q h g = absurd (omega (arith, g))
rises (suc i) (suc j) p q h g = inl (omega (arith, g))

-- the neighbours of the part at each place
beside : (i p q : ℕ) → slice_get order i ≡ Some p → Linked chain p q → (j : ℕ) × (slice_get order j ≡ Some q) × (0 < j → up j ≤ i)
beside zero p q e (inl (inl (a, b))) = (1, ap Some b, λ h. omega arith)
beside zero p q e (inl (inr (a, b))) = absurd (let x : 1 ≡ p = cc in omega (arith, x, b))
beside zero p q e (inr (inl (inl (a, b)))) = absurd (let x : 1 ≡ p = cc in omega (arith, x, a))
beside zero p q e (inr (inl (inr (a, b)))) = absurd (let x : 1 ≡ p = cc in omega (arith, x, b))
beside zero p q e (inr (inr z)) = absurd z
beside (suc zero) p q e (inl (inl (a, b))) = absurd (let x : 3 ≡ p = cc in omega (arith, x, a))
beside (suc zero) p q e (inl (inr (a, b))) = (0, ap Some a, λ h. omega arith)
beside (suc zero) p q e (inr (inl (inl (a, b)))) = (2, ap Some b, λ h. omega arith)
beside (suc zero) p q e (inr (inl (inr (a, b)))) = absurd (let x : 3 ≡ p = cc in omega (arith, x, b))
beside (suc zero) p q e (inr (inr z)) = absurd z
beside (suc (suc zero)) p q e (inl (inl (a, b))) = absurd (let x : 2 ≡ p = cc in omega (arith, x, a))
beside (suc (suc zero)) p q e (inl (inr (a, b))) = absurd (let x : 2 ≡ p = cc in omega (arith, x, b))
beside (suc (suc zero)) p q e (inr (inl (inl (a, b)))) = absurd (let x : 2 ≡ p = cc in omega (arith, x, a))
beside (suc (suc zero)) p q e (inr (inl (inr (a, b)))) = (1, ap Some a, λ h. omega arith)
beside (suc (suc zero)) p q e (inr (inr z)) = absurd z
beside (suc (suc (suc i))) p q e l = absurd (let z : ⊥ = cc in z)

chain-order : IsBreadthFirst 3 chain order
chain-order = search-is-breadth-first 3 chain order up searched chain-reached
  where
    searched : Searched 3 chain 3 order up
    searched = record {
      first = refl;
      gone = omega arith;
      parts_alone = λ i p e. (at i p e).1;
      once = λ i j p a b. (at i p a).0 ∙ sym (at j p b).0;
      later = later;
      linked = came;
      rising = λ i j p q h g a b. rises i j p q h g;
      closed = λ i p q h e l. beside i p q e l;
    }

-- part 3 stands before part 2
third-first : IsBefore order 3 2
third-first = (1, 2, omega arith, refl, refl)

-- the second of two links between two parts closes a cycle
doubled-closes : ClosesCycle doubled 1
doubled-closes = (link 1 2, refl, (1, (1, refl, inl (inl (refl, refl)))))

no-path : (n p q : ℕ) → (p ≡ q → ⊥) → Path [] n p q → ⊥
no-path zero p q ne e = ne e
no-path (suc n) p q ne (r, path, last) = last

-- and is the first that does
doubled-first : IsFirstCycle doubled 1
doubled-first = record {
  closes = doubled-closes;
  first = λ j h. first j h;
}
  where
    first : (j : ℕ) → j < 1 → ClosesCycle doubled j → ⊥
    first zero h (l, e, (n, path)) =
        let s : link 1 2 ≡ l = cc in
        no-path n 1 2 (λ z. omega (arith, z)) (subst (λ z. Path [] n z.a z.b) (sym s) path)
    first (suc j) h c = absurd (omega (arith, h))

-- a link from a part to itself closes one
self-closes : ClosesCycle (link 2 2 ∷ []) 0
self-closes = (link 2 2, refl, (0, refl))

-- two parts with no link
two-apart : IsLeastApart 2 [] 2
two-apart = record {
  part = record { low = omega arith; high = omega arith };
  apart = λ (n, path). no-path n 1 2 (λ z. omega (arith, z)) path;
  least = λ q part h. (0, (let low : 1 ≤ q = part.low in omega (arith, low, h)));
}

-- with link 1-2, however often, part 3 isn't reached
abbrev label : ℕ → ℕ
label p = if eqb p 2 then 1 else p

labelled : (p q : ℕ) → Joins (link 1 2) p q → label p ≡ label q
labelled p q (inl (a, b)) = ap label (sym a) ∙ ap label b
labelled p q (inr (a, b)) = ap label (sym b) ∙ ap label a

third-apart : ¬ Joined doubled 1 3
third-apart j = let e : 1 ≡ 3 = joined-labels doubled label (λ p q h. elim h [ inl a ↦ labelled p q a | inr b ↦ elim b [ inl a ↦ labelled p q a | inr a ↦ absurd a ] ]) 1 3 j in omega (arith, e)

-- so a doubled link beside a lone part is no tree, though there are k - 1 links
no-tree : ¬ IsTree 3 doubled
no-tree tree = third-apart (tree.reached 3 (record { low = omega arith; high = omega arith }))

-- the label 4 becomes 1, and others stay
relabelled : (relabel_of 4 1 4 ≡ 1) × (relabel_of 4 1 3 ≡ 3)
relabelled = (refl, refl)
