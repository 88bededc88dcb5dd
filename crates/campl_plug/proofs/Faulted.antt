-- The fault that is computed is the fault of the links.
use Rattle.std.proofs.Common.{◌≡◌, ℕ, zero, suc, ◌+◌, ◌<◌, ◌≤◌, inl, inr, eqb, if◌then◌else◌, List, [], ◌∷◌, ◌++◌, Option, Some, None, length, map, drop, refl, sym, ap, subst, ◌∙◌, arith, add-one, length-append}
use Rattle.std.proofs.lemmas.Bool.{eq-eqb, cases_eq, ne_eqb}
use Rattle.std.specs.List.{slice_get, slice_index, AllByRecursion}
use Rattle.campl_plug.specs.declared.plug.Link.{Link}
use Rattle.campl_plug.specs.declared.plug.PlugFault.{PlugFault}
use Rattle.campl_plug.specs.declared.plug.PlugFault.TheVariants.{Cycle, Apart, OutOfMemory}
use Rattle.campl_plug.specs.Links.{IsPart, IsWithin}
use Rattle.campl_plug.specs.Tree.{IsTree, AreReached, HasNoCycle}
use Rattle.campl_plug.specs.Faults.{IsFaultOf}
use Rattle.campl_plug.specs.Labels.{AreLabels, relabel_of}
use Rattle.campl_plug.proofs.Paths.{within-at}
use Rattle.campl_plug.proofs.Trees.{exactly}
use Rattle.campl_plug.proofs.Cycles.{FreeSoFar, free-first, free-closes, free-more, free-last, least-apart, all-reached}
use Rattle.campl_plug.proofs.OneFault.{tree-has-no-fault, one-fault}
use Rattle.campl_plug.specs.FirstFault.{own_labels, or_else, first_apart, fault_from, fault_of}
use Rattle.campl_plug.proofs.Counts.{part-up}

own-size : (k : ℕ) → length (own_labels k) ≡ k + 1
own-size zero = refl
own-size (suc k) = let e : length (own_labels k) ≡ k + 1 = own-size k in let f : length (own_labels k ++ suc k ∷ []) ≡ length (own_labels k) + 1 = length-append (own_labels k) (suc k ∷ []) in omega (arith, e, f)

index-front : (xs ys : List ℕ) (p : ℕ) → p < length xs → slice_index (xs ++ ys) p ≡ slice_index xs p
index-front [] ys p h = absurd (omega (arith, h))
index-front (x ∷ xs) ys zero h = refl
index-front (x ∷ xs) ys (suc p) h = index-front xs ys p (omega (arith, h))

index-last : (xs : List ℕ) (y p : ℕ) → p ≡ length xs → slice_index (xs ++ y ∷ []) p ≡ y
index-last [] y p h = rw h refl
index-last (x ∷ xs) y zero h = absurd (omega (arith, h))
index-last (x ∷ xs) y (suc p) h = index-last xs y p (omega (arith, h))

own-is : (k p : ℕ) → p < k + 1 → slice_index (own_labels k) p ≡ p
own-is zero p h = let e : p ≡ 0 = omega (arith, h) in rw e refl
own-is (suc k) p h = elim (cases_eq p (suc k)) [
  | inl e ↦ index-last (own_labels k) (suc k) p (let s : length (own_labels k) ≡ k + 1 = own-size k in omega (arith, e, s)) ∙ sym e
  | inr e ↦ index-front (own_labels k) (suc k ∷ []) p (let s : length (own_labels k) ≡ k + 1 = own-size k in omega (arith, e, h, s)) ∙ own-is k p (omega (arith, e, h))
]

-- what an answer says of the links
abbrev Tells : ℕ → List Link → Option PlugFault → Type 0
Tells k links (Some fault) = IsFaultOf k links fault × (fault ≡ OutOfMemory → ⊥)
Tells k links None = IsTree k links

no-memory-cycle : (i : ℕ) → Cycle i ≡ OutOfMemory → ⊥
no-memory-cycle i e = let no : ⊥ = cc in no

no-memory-apart : (p : ℕ) → Apart p ≡ OutOfMemory → ⊥
no-memory-apart p e = let no : ⊥ = cc in no

abbrev SameUpTo : ℕ → List ℕ → Type 0
SameUpTo n labels = (q : ℕ) → IsPart n q → slice_index labels q ≡ slice_index labels 1

abbrev LeastOther : ℕ → List ℕ → PlugFault → Type 0
LeastOther n labels fault = (p : ℕ) × (fault ≡ Apart p) × IsPart n p × (slice_index labels p ≡ slice_index labels 1 → ⊥) × ((q : ℕ) → IsPart n q → q < p → slice_index labels q ≡ slice_index labels 1)

abbrev TellsOther : ℕ → List ℕ → Option PlugFault → Type 0
TellsOther n labels (Some fault) = LeastOther n labels fault
TellsOther n labels None = SameUpTo n labels

others : (n : ℕ) (labels : List ℕ) → TellsOther n labels (first_apart n labels)
others zero labels = λ q i. absurd (omega (arith, i.low, i.high))
others (suc n) labels = go (first_apart n labels) (others n labels)
  where
    go : (o : Option PlugFault) → TellsOther n labels o → TellsOther (suc n) labels (or_else o (if eqb (slice_index labels (suc n)) (slice_index labels 1) then None else Some (Apart (suc n))))
    go (Some fault) (p, e, i, ne, least) = (p, e, part-up n p i, ne, λ q j h. least q (record { low = j.low; high = omega (arith, h, i.high) }) h)
    go None same = elim (cases_eq (slice_index labels (suc n)) (slice_index labels 1)) [
      | inl e ↦ rw (eq-eqb (slice_index labels (suc n)) (slice_index labels 1) e) (λ q i. elim (cases_eq q (suc n)) [
        | inl s ↦ ap (slice_index labels) s ∙ e
        | inr s ↦ same q (record { low = i.low; high = omega (arith, i.high, s) })
      ])
      | inr ne ↦ rw (ne_eqb (slice_index labels (suc n)) (slice_index labels 1) ne)
          (suc n, refl, record { low = omega arith; high = omega arith }, ne, λ q i h. same q (record { low = i.low; high = omega (arith, h) }))
    ]

module _ (k : ℕ) (links : List Link) (within : AllByRecursion (IsWithin k) links) (some : 1 ≤ k) where
  finish : (labels : List ℕ) (o : Option PlugFault) → AreLabels k links labels × HasNoCycle links → TellsOther k labels o → Tells k links o
  finish labels (Some fault) (are, free) (p, e, i, ne, least) = rw e ((free, least-apart k links labels p some are i ne least), no-memory-apart p)
  finish labels None (are, free) same =
      let reached : AreReached k links = all-reached k links labels some are same in
      record { count = exactly k links within some free reached; reached = reached }

  tells : (i : ℕ) (labels : List ℕ) (rest : List Link) → drop i links ≡ rest → FreeSoFar k links i labels → Tells k links (fault_from k i labels rest)
  tells i labels [] e s = finish labels (first_apart k labels) (free-last k links labels i (nothing-left links i e) s) (others k labels)
    where
      nothing-left : (xs : List Link) (i : ℕ) → drop i xs ≡ [] → length xs ≤ i
      nothing-left [] i e = omega arith
      nothing-left (x ∷ xs) zero e = absurd (let no : ⊥ = cc in no)
      nothing-left (x ∷ xs) (suc i) e = let h : length xs ≤ i = nothing-left xs i e in omega (arith, h)
  tells i labels (l ∷ rest) e s = elim (cases_eq (slice_index labels l.a) (slice_index labels l.b)) [
    | inl h ↦ rw (eq-eqb (slice_index labels l.a) (slice_index labels l.b) h) (free-closes k links i labels s l at w h, no-memory-cycle i)
    | inr h ↦ rw (ne_eqb (slice_index labels l.a) (slice_index labels l.b) h)
        (tells (suc i) (map (relabel_of (slice_index labels l.a) (slice_index labels l.b)) labels) rest (one-more links i e)
        (subst (λ j. FreeSoFar k links j (map (relabel_of (slice_index labels l.a) (slice_index labels l.b)) labels)) (add-one i) (free-more k links i labels s l at w h)))
  ]
    where
      first-at : (xs : List Link) (i : ℕ) → drop i xs ≡ l ∷ rest → slice_get xs i ≡ Some l
      first-at [] zero e = absurd (let no : ⊥ = cc in no)
      first-at [] (suc i) e = absurd (let no : ⊥ = cc in no)
      first-at (x ∷ xs) zero e = let h : x ≡ l = cc in ap Some h
      first-at (x ∷ xs) (suc i) e = first-at xs i e

      one-more : (xs : List Link) (i : ℕ) → drop i xs ≡ l ∷ rest → drop (suc i) xs ≡ rest
      one-more [] zero e = absurd (let no : ⊥ = cc in no)
      one-more [] (suc i) e = absurd (let no : ⊥ = cc in no)
      one-more (x ∷ xs) zero e = cc
      one-more (x ∷ xs) (suc i) e = one-more xs i e

      at : slice_get links i ≡ Some l
      at = first-at links i e

      w : IsWithin k l
      w = within-at k links within i l at

  pub fault-tells : Tells k links (fault_of k links)
  fault-tells = tells 0 (own_labels k) links refl (free-first k links (own_labels k) (own-size k) (own-is k))

  pub tree-exactly : (IsTree k links → fault_of k links ≡ None) × (fault_of k links ≡ None → IsTree k links)
  tree-exactly = ((λ tree. go tree (fault_of k links) fault-tells), (λ e. subst (Tells k links) e fault-tells))
    where
      go : IsTree k links → (o : Option PlugFault) → Tells k links o → o ≡ None
      go tree None t = refl
      go tree (Some fault) (is, stays) = absurd (stays (tree-has-no-fault k links within some tree fault is))

  pub fault-exactly : (fault : PlugFault) → (fault ≡ OutOfMemory → ⊥) → (IsFaultOf k links fault → fault_of k links ≡ Some fault) × (fault_of k links ≡ Some fault → IsFaultOf k links fault)
  fault-exactly fault ne = ((λ is. go is (fault_of k links) fault-tells), (λ e. (subst (Tells k links) e fault-tells).0))
    where
      go : IsFaultOf k links fault → (o : Option PlugFault) → Tells k links o → o ≡ Some fault
      go is None tree = absurd (ne (tree-has-no-fault k links within some tree fault is))
      go is (Some other) (it, stays) = ap Some (one-fault k links other fault it is stays ne)
