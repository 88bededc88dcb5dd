-- Lists of names with what they stand for.
use Rattle.std.proofs.Common.{◌≡◌, ◌⊎◌, inl, inr, refl, sym, ap, subst, Bool, true, false, if◌then◌else◌, List, [], ◌∷◌, ◌++◌, Some, None}
use Rattle.campl_types.specs.Names.{Name, same_name, is_among, are_distinct, found}
use Rattle.campl_types.specs.World.{or_else}
use Rattle.campl_types.proofs.Names.{same-is, same-itself}
use Rattle.campl_types.proofs.Truth.{no-both, not-true, and-first, and-second, or-first, or-second}

abbrev pub IsIn : {A : Type 0} → A → List A → Type 0
IsIn x [] = ⊥
IsIn x (y ∷ ys) = (x ≡ y) ⊎ IsIn x ys

abbrev pub firsts : {A : Type 0} → List (Name × A) → List Name
firsts [] = []
firsts (e ∷ es) = e.0 ∷ firsts es

module _ {A : Type 0} where
  pub found-in : (x : Name) (v : A) (es : List (Name × A)) → found x es ≡ Some v → IsIn (x, v) es
  found-in x v [] i = absurd (cc i)
  found-in x v (e ∷ es) i = go (same_name x e.0) refl i (found-in x v es)
    where
      go : (b : Bool) → same_name x e.0 ≡ b → (if b then Some e.1 else found x es) ≡ Some v → (found x es ≡ Some v → IsIn (x, v) es) → ((x, v) ≡ e) ⊎ IsIn (x, v) es
      go true s j later = let p = same-is x e.0 s in let q : e.1 ≡ v = cc j in let q2 = sym q in inl (λ k. (p k, q2 k))
      go false s j later = inr (later j)

  pub in-firsts : (x : Name) (v : A) (es : List (Name × A)) → IsIn (x, v) es → is_among x (firsts es) ≡ true
  in-firsts x v [] i = absurd i
  in-firsts x v (e ∷ es) (inl i) = or-first (same_name x e.0) (is_among x (firsts es)) (subst (λ (d : Name × A). same_name x d.0 ≡ true) i (same-itself x))
  in-firsts x v (e ∷ es) (inr i) = or-second (same_name x e.0) (is_among x (firsts es)) (in-firsts x v es i)

  pub in-found : (x : Name) (v : A) (es : List (Name × A)) → are_distinct (firsts es) ≡ true → IsIn (x, v) es → found x es ≡ Some v
  in-found x v [] d i = absurd i
  in-found x v (e ∷ es) d (inl i) =
      let s : same_name x e.0 ≡ true = subst (λ (c : Name × A). same_name x c.0 ≡ true) i (same-itself x) in
      let t : Some e.1 ≡ Some v = ap (λ (c : Name × A). Some c.1) (sym i) in
      rw s t
  in-found x v (e ∷ es) d (inr i) = go (same_name x e.0) refl (in-found x v es (and-second _ (are_distinct (firsts es)) d) i)
    where
      go : (b : Bool) → same_name x e.0 ≡ b → found x es ≡ Some v → (if b then Some e.1 else found x es) ≡ Some v
      go true s later = absurd (no-both (is_among e.0 (firsts es)) (subst (λ y. is_among y (firsts es) ≡ true) (same-is x e.0 s) (in-firsts x v es i)) (not-true (is_among e.0 (firsts es)) (and-first _ (are_distinct (firsts es)) d)))
      go false s later = later

  pub found-both : (y : Name) (ds bs : List (Name × A)) → found y (ds ++ bs) ≡ or_else (found y ds) (found y bs)
  found-both y [] bs = refl
  found-both y (e ∷ es) bs = go (same_name y e.0) (found-both y es bs)
    where
      go : (q : Bool) → found y (es ++ bs) ≡ or_else (found y es) (found y bs)
          → (if q then Some e.1 else found y (es ++ bs)) ≡ or_else (if q then Some e.1 else found y es) (found y bs)
      go true ih = refl
      go false ih = ih

  pub in-front : (e : Name × A) (xs ys : List (Name × A)) → IsIn e xs → IsIn e (xs ++ ys)
  in-front e [] ys i = absurd i
  in-front e (x ∷ xs) ys (inl i) = inl i
  in-front e (x ∷ xs) ys (inr i) = inr (in-front e xs ys i)

  pub in-behind : (e : Name × A) (xs ys : List (Name × A)) → IsIn e ys → IsIn e (xs ++ ys)
  in-behind e [] ys i = i
  in-behind e (x ∷ xs) ys i = inr (in-behind e xs ys i)

  pub in-either : (e : Name × A) (xs ys : List (Name × A)) → IsIn e (xs ++ ys) → IsIn e xs ⊎ IsIn e ys
  in-either e [] ys i = inr i
  in-either e (x ∷ xs) ys (inl i) = inl (inl i)
  in-either e (x ∷ xs) ys (inr i) = elim (in-either e xs ys i) [ inl j ↦ inl (inr j) | inr j ↦ inr j ]

  pub firsts-both : (xs ys : List (Name × A)) → firsts (xs ++ ys) ≡ firsts xs ++ firsts ys
  firsts-both [] ys = refl
  firsts-both (x ∷ xs) ys = ap (λ ns. x.0 ∷ ns) (firsts-both xs ys)

pub none-in : {A : Type 0} (x : Name) (v : A) (es : List (Name × A)) → found x es ≡ None → IsIn (x, v) es → ⊥
none-in x v [] i j = absurd j
none-in x v (e ∷ es) i (inl j) = let s : same_name x e.0 ≡ true = subst (λ (c : Name × _). same_name x c.0 ≡ true) j (same-itself x) in absurd (cc (rw s at i))
none-in x v (e ∷ es) i (inr j) = go (same_name x e.0) i (none-in x v es)
  where
    go : (b : Bool) → (if b then Some e.1 else found x es) ≡ None → (found x es ≡ None → IsIn (x, v) es → ⊥) → ⊥
    go true k later = absurd (cc k)
    go false k later = later k j
