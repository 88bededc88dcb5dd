-- Paths of links.
use Rattle.std.proofs.Common.{◌≡◌, ℕ, zero, suc, ◌⊎◌, inl, inr, List, [], ◌∷◌, ◌++◌, Some, take, refl, sym, ap, subst, ◌∙◌}
use Rattle.std.specs.List.{slice_get, AllByRecursion}
use Rattle.campl_plug.specs.declared.plug.Link.{Link}
use Rattle.campl_plug.specs.Links.{IsPart, IsWithin, Joins, Linked, Path, Joined}

pub joins-turned : (l : Link) (p q : ℕ) → Joins l p q → Joins l q p
joins-turned l p q (inl h) = inr h
joins-turned l p q (inr h) = inl h

pub linked-turned : (links : List Link) (p q : ℕ) → Linked links p q → Linked links q p
linked-turned [] p q h = h
linked-turned (l ∷ ls) p q (inl h) = inl (joins-turned l p q h)
linked-turned (l ∷ ls) p q (inr h) = inr (linked-turned ls p q h)

pub linked-front : (xs ys : List Link) (p q : ℕ) → Linked xs p q → Linked (xs ++ ys) p q
linked-front [] ys p q h = absurd h
linked-front (l ∷ ls) ys p q (inl h) = inl h
linked-front (l ∷ ls) ys p q (inr h) = inr (linked-front ls ys p q h)

pub linked-back : (xs ys : List Link) (p q : ℕ) → Linked ys p q → Linked (xs ++ ys) p q
linked-back [] ys p q h = h
linked-back (l ∷ ls) ys p q h = inr (linked-back ls ys p q h)

pub linked-split : (xs ys : List Link) (p q : ℕ) → Linked (xs ++ ys) p q → Linked xs p q ⊎ Linked ys p q
linked-split [] ys p q h = inr h
linked-split (l ∷ ls) ys p q (inl h) = inl (inl h)
linked-split (l ∷ ls) ys p q (inr h) = elim (linked-split ls ys p q h) [ inl k ↦ inl (inr k) | inr k ↦ inr k ]

-- one more link joins the two parts, or those before it do
pub linked-last : (xs : List Link) (l : Link) (p q : ℕ) → Linked (xs ++ l ∷ []) p q → Linked xs p q ⊎ Joins l p q
linked-last xs l p q h = elim (linked-split xs (l ∷ []) p q h) [
  | inl k ↦ inl k
  | inr k ↦ elim k [ inl j ↦ inr j | inr j ↦ absurd j ]
]

pub linked-at : (links : List Link) (i : ℕ) (l : Link) (p q : ℕ) → slice_get links i ≡ Some l → Joins l p q → Linked links p q
linked-at [] i l p q e h = absurd (let no : ⊥ = cc in no)
linked-at (m ∷ ls) zero l p q e h = let s : l ≡ m = cc in inl (subst (λ z. Joins z p q) s h)
linked-at (m ∷ ls) (suc i) l p q e h = inr (linked-at ls i l p q e h)

pub at-linked : (links : List Link) (p q : ℕ) → Linked links p q → (i : ℕ) × (l : Link) × (slice_get links i ≡ Some l) × Joins l p q
at-linked [] p q h = absurd h
at-linked (l ∷ ls) p q (inl h) = (zero, l, refl, h)
at-linked (l ∷ ls) p q (inr h) = let (i, m, e, j) = at-linked ls p q h in (suc i, m, e, j)

pub linked-taken : (links : List Link) (i : ℕ) (p q : ℕ) → Linked (take i links) p q → Linked links p q
linked-taken links zero p q h = absurd h
linked-taken [] (suc i) p q h = h
linked-taken (l ∷ ls) (suc i) p q (inl h) = inl h
linked-taken (l ∷ ls) (suc i) p q (inr h) = inr (linked-taken ls i p q h)

pub within-at : (k : ℕ) (links : List Link) → AllByRecursion (IsWithin k) links → (i : ℕ) (l : Link) → slice_get links i ≡ Some l → IsWithin k l
within-at k [] w i l e = absurd (let no : ⊥ = cc in no)
within-at k (m ∷ ls) w zero l e = let s : m ≡ l = cc in subst (IsWithin k) s w.0
within-at k (m ∷ ls) w (suc i) l e = within-at k ls w.1 i l e

pub joins-parts : (k : ℕ) (l : Link) (p q : ℕ) → IsWithin k l → Joins l p q → IsPart k p × IsPart k q
joins-parts k l p q w (inl (a, b)) = (subst (IsPart k) a w.a_part, subst (IsPart k) b w.b_part)
joins-parts k l p q w (inr (a, b)) = (subst (IsPart k) b w.b_part, subst (IsPart k) a w.a_part)

pub linked-parts : (k : ℕ) (links : List Link) → AllByRecursion (IsWithin k) links → (p q : ℕ) → Linked links p q → IsPart k p × IsPart k q
linked-parts k [] w p q h = absurd h
linked-parts k (l ∷ ls) w p q (inl h) = joins-parts k l p q w.0 h
linked-parts k (l ∷ ls) w p q (inr h) = linked-parts k ls w.1 p q h

pub joined-here : (links : List Link) (p : ℕ) → Joined links p p
joined-here links p = (zero, refl)

pub joined-more : (links : List Link) (p r q : ℕ) → Joined links p r → Linked links r q → Joined links p q
joined-more links p r q (n, path) h = (suc n, (r, path, h))

pub joined-one : (links : List Link) (p q : ℕ) → Linked links p q → Joined links p q
joined-one links p q h = joined-more links p p q (joined-here links p) h

path-after : (links : List Link) (p q : ℕ) → Joined links p q → (n r : ℕ) → Path links n q r → Joined links p r
path-after links p q j zero r e = subst (Joined links p) e j
path-after links p q j (suc n) r (s, path, last) = joined-more links p s r (path-after links p q j n s path) last

pub joined-on : (links : List Link) (p q r : ℕ) → Joined links p q → Joined links q r → Joined links p r
joined-on links p q r j (n, path) = path-after links p q j n r path

path-turned : (links : List Link) (p : ℕ) (n q : ℕ) → Path links n p q → Joined links q p
path-turned links p zero q e = (zero, sym e)
path-turned links p (suc n) q (r, path, last) = joined-on links q r p (joined-one links q r (linked-turned links r q last)) (path-turned links p n r path)

pub joined-turned : (links : List Link) (p q : ℕ) → Joined links p q → Joined links q p
joined-turned links p q (n, path) = path-turned links p n q path

path-into : (xs ys : List Link) → ((p q : ℕ) → Linked xs p q → Joined ys p q) → (p : ℕ) (n q : ℕ) → Path xs n p q → Joined ys p q
path-into xs ys f p zero q e = (zero, e)
path-into xs ys f p (suc n) q (r, path, last) = joined-on ys p r q (path-into xs ys f p n r path) (f r q last)

-- where links join what the others link, they join what the others join
pub joined-into : (xs ys : List Link) → ((p q : ℕ) → Linked xs p q → Joined ys p q) → (p q : ℕ) → Joined xs p q → Joined ys p q
joined-into xs ys f p q (n, path) = path-into xs ys f p n q path

pub joined-front : (xs ys : List Link) (p q : ℕ) → Joined xs p q → Joined (xs ++ ys) p q
joined-front xs ys = joined-into xs (xs ++ ys) (λ p q h. joined-one (xs ++ ys) p q (linked-front xs ys p q h))

path-labels : (links : List Link) (f : ℕ → ℕ) → ((p q : ℕ) → Linked links p q → f p ≡ f q) → (p : ℕ) (n q : ℕ) → Path links n p q → f p ≡ f q
path-labels links f h p zero q e = ap f e
path-labels links f h p (suc n) q (r, path, last) = path-labels links f h p n r path ∙ h r q last

-- what each link keeps, a path of links keeps
pub joined-labels : (links : List Link) (f : ℕ → ℕ) → ((p q : ℕ) → Linked links p q → f p ≡ f q) → (p q : ℕ) → Joined links p q → f p ≡ f q
joined-labels links f h p q (n, path) = path-labels links f h p n q path
