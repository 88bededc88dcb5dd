-- How many links join the parts.
use Rattle.std.proofs.Common.{◌≡◌, ℕ, zero, suc, ◌+◌, ◌≤◌, ◌⊎◌, inl, inr, false, List, [], ◌∷◌, ◌++◌, Some, length, take, take_all, refl, sym, ap, subst, ◌∙◌, arith}
use Rattle.std.proofs.lemmas.Bool.{eq-eqb, ne_eqb, cases_eq}
use Rattle.std.specs.List.{slice_get, AllByRecursion}
use Rattle.campl_plug.specs.declared.plug.Link.{Link}
use Rattle.campl_plug.specs.Links.{IsPart, IsWithin, Joins, Linked, Joined}
use Rattle.campl_plug.specs.Tree.{AreReached, IsTree, HasNoCycle}
use Rattle.campl_plug.specs.Labels.{IsLabelling, relabel_of}
use Rattle.campl_plug.proofs.Places.{get-there, get-one, take-one-more}
use Rattle.campl_plug.proofs.Paths.{linked-at, at-linked, within-at, joined-one, joined-turned, joined-into, joined-labels}
use Rattle.campl_plug.proofs.Counts.{passing, passing-more, passing-none}
use Rattle.campl_plug.proofs.Labelled.{is_root, own-labelling, own-roots, same-labelling, new-labelling, new-roots}

-- the links leave c groups of joined parts
abbrev pub Groups : ℕ → List Link → ℕ → Type 0
Groups k links c = (f : ℕ → ℕ) × IsLabelling k links f × (passing (is_root f) k ≡ c)

no-groups : (k : ℕ) → Groups k [] k
no-groups k = ((λ p. p), own-labelling k (λ p. p) (λ p i. refl), own-roots k (λ p. p) (λ p i. refl))

-- one more link joins two groups, or parts of one
one-more : (k : ℕ) (links : List Link) (c : ℕ) (l : Link) → IsWithin k l → Groups k links c
    → (Joined links l.a l.b × Groups k (links ++ l ∷ []) c) ⊎ ((d : ℕ) × (c ≡ suc d) × Groups k (links ++ l ∷ []) d)
one-more k links c l w (f, lab, count) = elim (cases_eq (f l.a) (f l.b)) [
  | inl e ↦ inl (lab.joined l.a l.b w.a_part w.b_part e, (f, same-labelling k links f lab l w e, count))
  | inr e ↦
      let g : ℕ → ℕ = λ p. relabel_of (f l.a) (f l.b) (f p) in
      inr (passing (is_root g) k, sym count ∙ new-roots k links f lab l w e g (λ p. refl), (g, new-labelling k links f lab l w e g (λ p. refl), refl))
]

-- the first i links, where none of them closes a cycle, leave k - i groups
forest : (k : ℕ) (links : List Link) → AllByRecursion (IsWithin k) links → HasNoCycle links → (i : ℕ) → i ≤ length links → (c : ℕ) × (c + i ≡ k) × Groups k (take i links) c
forest k links w free zero h = (k, omega arith, no-groups k)
forest k links w free (suc i) h =
    let (c, e, groups) = forest k links w free i (omega (arith, h)) in
    let (l, at) = get-there links i (omega (arith, h)) in
    elim (one-more k (take i links) c l (within-at k links w i l at) groups) [
      | inl (j, more) ↦ absurd (free i (l, at, j))
      | inr (d, s, more) ↦ (d, omega (arith, e, s), subst (λ z. Groups k z d) (sym (take-one-more links i l at)) more)
    ]

-- and in any case no fewer
few : (k : ℕ) (links : List Link) → AllByRecursion (IsWithin k) links → (i : ℕ) → i ≤ length links → (c : ℕ) × (k ≤ c + i) × Groups k (take i links) c
few k links w zero h = (k, omega arith, no-groups k)
few k links w (suc i) h =
    let (c, e, groups) = few k links w i (omega (arith, h)) in
    let (l, at) = get-there links i (omega (arith, h)) in
    elim (one-more k (take i links) c l (within-at k links w i l at) groups) [
      | inl (j, more) ↦ (c, omega (arith, e), subst (λ z. Groups k z c) (sym (take-one-more links i l at)) more)
      | inr (d, s, more) ↦ (d, omega (arith, e, s), subst (λ z. Groups k z d) (sym (take-one-more links i l at)) more)
    ]

all-taken : (links : List Link) → take (length links) links ≡ links
all-taken links = take_all (length links) links (omega arith)

-- where each part is reached there is one group
one-group : (k : ℕ) (links : List Link) (c : ℕ) → 1 ≤ k → AreReached k links → Groups k links c → c ≡ 1
one-group k links c some reached (f, lab, count) =
    let first : IsPart k 1 = record { low = omega arith; high = some } in
    let more : passing (is_root f) k ≡ suc (passing (λ p. false) k) = passing-more (λ p. false) (is_root f) k (f 1) (lab.inside 1 first) refl
    (eq-eqb (f (f 1)) (f 1) (lab.own 1 first))
    (λ p i ne. sym (ne_eqb (f p) p (λ h. ne (sym h ∙ sym (joined-labels links f lab.linked 1 p (reached p i)))))) in
    let none : passing (λ p. false) k ≡ 0 = passing-none k in
    omega (arith, more, none, count)

-- fewer than k - 1 links don't reach each part
pub enough : (k : ℕ) (links : List Link) → AllByRecursion (IsWithin k) links → 1 ≤ k → AreReached k links → k ≤ suc (length links)
enough k links w some reached =
    let (c, e, groups) = few k links w (length links) (omega arith) in
    let one : c ≡ 1 = one-group k links c some reached (subst (λ z. Groups k z c) (all-taken links) groups) in
    omega (arith, e, one)

-- where each part is reached and no link closes a cycle there are k - 1 links
pub exactly : (k : ℕ) (links : List Link) → AllByRecursion (IsWithin k) links → 1 ≤ k → HasNoCycle links → AreReached k links → length links + 1 ≡ k
exactly k links w some free reached =
    let (c, e, groups) = forest k links w free (length links) (omega arith) in
    let one : c ≡ 1 = one-group k links c some reached (subst (λ z. Groups k z c) (all-taken links) groups) in
    omega (arith, e, one)

-- the links without link j
abbrev pub without : ℕ → List Link → List Link
without j [] = []
without zero (l ∷ ls) = ls
without (suc j) (l ∷ ls) = l ∷ without j ls

one-less : (links : List Link) (j : ℕ) (l : Link) → slice_get links j ≡ Some l → suc (length (without j links)) ≡ length links
one-less [] j l e = absurd (let no : ⊥ = cc in no)
one-less (m ∷ ls) zero l e = omega arith
one-less (m ∷ ls) (suc j) l e = let r : suc (length (without j ls)) ≡ length ls = one-less ls j l e in omega (arith, r)

within-without : (k : ℕ) (links : List Link) (j : ℕ) → AllByRecursion (IsWithin k) links → AllByRecursion (IsWithin k) (without j links)
within-without k [] j w = w
within-without k (l ∷ ls) zero w = w.1
within-without k (l ∷ ls) (suc j) w = (w.0, within-without k ls j w.1)

-- each other link is still there
pub linked-without : (links : List Link) (j i : ℕ) (l : Link) (p q : ℕ) → slice_get links i ≡ Some l → (i ≡ j → ⊥) → Joins l p q → Linked (without j links) p q
linked-without [] j i l p q e ne h = absurd (let no : ⊥ = cc in no)
linked-without (m ∷ ls) zero zero l p q e ne h = absurd (ne refl)
linked-without (m ∷ ls) zero (suc i) l p q e ne h = linked-at ls i l p q e h
linked-without (m ∷ ls) (suc j) zero l p q e ne h = let s : l ≡ m = cc in inl (subst (λ z. Joins z p q) s h)
linked-without (m ∷ ls) (suc j) (suc i) l p q e ne h = inr (linked-without ls j i l p q e (λ s. ne (ap suc s)) h)

-- and so are the links before it
linked-before : (links : List Link) (j : ℕ) (p q : ℕ) → Linked (take j links) p q → Linked (without j links) p q
linked-before links zero p q h = absurd h
linked-before [] (suc j) p q h = h
linked-before (l ∷ ls) (suc j) p q (inl h) = inl h
linked-before (l ∷ ls) (suc j) p q (inr h) = inr (linked-before ls j p q h)

-- no link of a tree can be spared
pub none-spared : (k : ℕ) (links : List Link) → AllByRecursion (IsWithin k) links → 1 ≤ k → IsTree k links → (j : ℕ) (l : Link) → slice_get links j ≡ Some l → AreReached k (without j links) → ⊥
none-spared k links w some tree j l at reached =
    let a : k ≤ suc (length (without j links)) = enough k (without j links) (within-without k links j w) some reached in
    let b : suc (length (without j links)) ≡ length links = one-less links j l at in
    omega (arith, a, b, tree.count)

-- no link of a tree closes a cycle
pub tree-has-no-cycle : (k : ℕ) (links : List Link) → AllByRecursion (IsWithin k) links → 1 ≤ k → IsTree k links → HasNoCycle links
tree-has-no-cycle k links w some tree i (l, at, joined) =
    none-spared k links w some tree i l at (λ p part. joined-into links rest around 1 p (tree.reached p part))
  where
    rest : List Link
    rest = without i links

    round : Joined rest l.a l.b
    round = joined-into (take i links) rest (λ p q h. joined-one rest p q (linked-before links i p q h)) l.a l.b joined

    through : (p q : ℕ) → Joins l p q → Joined rest p q
    through p q (inl (a, b)) = subst (λ z. Joined rest z q) a (subst (Joined rest l.a) b round)
    through p q (inr (a, b)) = subst (λ z. Joined rest z q) b (subst (Joined rest l.b) a (joined-turned rest l.a l.b round))

    around : (p q : ℕ) → Linked links p q → Joined rest p q
    around p q h =
        let (e, m, ate, j) = at-linked links p q h in
        elim (cases_eq e i) [
          | inl s ↦ through p q (subst (λ z. Joins z p q) (get-one links i m l (subst (λ z. slice_get links z ≡ Some m) s ate) at) j)
          | inr s ↦ joined-one rest p q (linked-without links i e m p q ate s j)
        ]
