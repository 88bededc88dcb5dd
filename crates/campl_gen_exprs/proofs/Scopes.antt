-- Variables in scope, and the bindings that hold them.
use Rattle.std.proofs.Common.{drop, ◌-◌, ◌≤◌, ◌≡◌, ◌∙◌, refl, sym, ap, subst, ℕ, zero, suc, ◌<◌, Bool, true, false, cond, List, [], ◌∷◌, ◌++◌, reverse, length, Option, Some, None, IsSome, inl, inr, ◌⊎◌, option_map, slice_get, if◌then◌else◌, arith}
use Rattle.std.specs.Map.{lookup}
use Rattle.std.proofs.lemmas.List.{reverse-append, reverse-reverse, length-reverse}
use Rattle.campl_types.specs.Names.{Name, same_name, found}
use Rattle.campl_types.proofs.Names.{same-turned, same-itself, split-names}
use Rattle.campl_gen_exprs.specs.declared.scope.Binding.{Binding}
use Rattle.campl_gen_exprs.specs.Scopes.{bound, newest, seen_at, AreLinked}

at-end : {A : Type 0} → (xs : List A) (y : A) → slice_get (xs ++ y ∷ []) (length xs) ≡ Some y
at-end [] y = refl
at-end (x ∷ xs) y = at-end xs y

before-end : {A : Type 0} → (xs : List A) (y : A) (n : ℕ) → n < length xs → slice_get (xs ++ y ∷ []) n ≡ slice_get xs n
before-end [] y n i = absurd (let none : ⊥ = omega arith in none)
before-end (x ∷ xs) y zero i = refl
before-end (x ∷ xs) y (suc n) i = before-end xs y n (omega arith)

newest-within : (x : Name) (bs : List Binding) (n : ℕ) → newest x bs ≡ Some n → n < length bs
newest-within x [] n i = absurd (let none : ⊥ = cc in none)
newest-within x (b ∷ bs) n i = go (same_name b.name x) i (λ j. newest-within x bs n j)
  where
    go : (p : Bool) → cond p (Some (length bs)) (newest x bs) ≡ Some n → (newest x bs ≡ Some n → n < length bs) → n < suc (length bs)
    go true j later = let e : length bs ≡ n = cc in omega (arith, e)
    go false j later = let less : n < length bs = later j in omega (arith, less)

-- What is found

found-newest : (x : Name) (bs : List Binding) → found x (bound bs) ≡ seen_at (reverse bs) (newest x bs)
found-newest x [] = refl
found-newest x (b ∷ bs) = rw (same-turned x b.name, reverse-append (b ∷ []) bs) (go (same_name b.name x) (found-newest x bs))
  where
    kept : (o : Option ℕ) → newest x bs ≡ o → seen_at (reverse bs) o ≡ seen_at (reverse bs ++ b ∷ []) o
    kept None i = refl
    kept (Some n) i =
        let within : n < length (reverse bs) = subst (λ m. n < m) (sym (length-reverse bs)) (newest-within x bs n i) in
        ap (option_map (λ (c : Binding). c.number)) (sym (before-end (reverse bs) b n within))

    go : (p : Bool) → found x (bound bs) ≡ seen_at (reverse bs) (newest x bs)
        → (if p then Some b.number else found x (bound bs)) ≡ seen_at (reverse bs ++ b ∷ []) (cond p (Some (length bs)) (newest x bs))
    go true later =
        sym (ap (option_map (λ (c : Binding). c.number)) (ap (slice_get (reverse bs ++ b ∷ [])) (sym (length-reverse bs)) ∙ at-end (reverse bs) b))
    go false later = later ∙ kept (newest x bs) refl

-- the entries tell the newest binding of each name
abbrev pub Tell : List (Name × ℕ) → List Binding → Type 0
Tell es bs = (x : Name) → lookup (same_name x) es ≡ newest x (reverse bs)

pub found-told : (x : Name) (es : List (Name × ℕ)) (bs : List Binding) → Tell es bs → found x (bound (reverse bs)) ≡ seen_at bs (lookup (same_name x) es)
found-told x es bs tell =
    found-newest x (reverse bs) ∙ ap (λ l. seen_at l (newest x (reverse bs))) (reverse-reverse bs) ∙ ap (seen_at bs) (sym (tell x))

-- One fewer

pub one-less : {A : Type 0} → (xs : List A) (n : ℕ) → n < length xs → drop (length (drop 1 xs) - n) (drop 1 xs) ≡ drop (length xs - n) xs
one-less [] n i = absurd (let none : ⊥ = omega arith in none)
one-less (x ∷ xs) n i = let e : suc (length xs) - n ≡ suc (length xs - n) = omega arith in rw e refl

pub none-less : {A : Type 0} → (xs : List A) (n : ℕ) → length xs ≤ n → drop (length xs - n) xs ≡ xs
none-less xs n i = let e : length xs - n ≡ 0 = omega arith in rw e refl

pub fewer : {A : Type 0} → (xs : List A) → 0 < length xs → length (drop 1 xs) < length xs
fewer [] i = absurd (let none : ⊥ = omega arith in none)
fewer (x ∷ xs) i = omega arith

-- The newest goes

popped-first : (bs rest : List Binding) (b : Binding) → bs ≡ rest ++ b ∷ [] → reverse bs ≡ b ∷ reverse rest
popped-first bs rest b i = ap reverse i ∙ reverse-append rest (b ∷ [])

-- its name is there
pub popped-known : (es : List (Name × ℕ)) (bs rest : List Binding) (b : Binding) → bs ≡ rest ++ b ∷ [] → lookup (same_name b.name) es ≡ newest b.name (reverse bs) → IsSome (lookup (same_name b.name) es)
popped-known es bs rest b i told =
    let is : lookup (same_name b.name) es ≡ Some (length (reverse rest)) =
    told ∙ ap (newest b.name) (popped-first bs rest b i) ∙ ap (λ t. cond t (Some (length (reverse rest))) (newest b.name (reverse rest))) (same-itself b.name) in
    subst (λ (o : Option ℕ). IsSome o) (sym is) refl

pub popped-told : (es fs : List (Name × ℕ)) (bs rest : List Binding) (b : Binding) → bs ≡ rest ++ b ∷ [] → (x : Name) → lookup (same_name x) es ≡ newest x (reverse bs) → AreLinked (reverse bs)
    → lookup (same_name x) fs ≡ cond (same_name b.name x) b.hidden (lookup (same_name x) es) → lookup (same_name x) fs ≡ newest x (reverse rest)
popped-told es fs bs rest b i x told linked new = new ∙ go (split-names b.name x)
  where
    first : reverse bs ≡ b ∷ reverse rest
    first = popped-first bs rest b i

    hides : b.hidden ≡ newest b.name (reverse rest)
    hides = (subst AreLinked first linked).0

    go : (b.name ≡ x) ⊎ (same_name b.name x ≡ false) → cond (same_name b.name x) b.hidden (lookup (same_name x) es) ≡ newest x (reverse rest)
    go (inl same) =
        ap (λ y. cond (same_name b.name y) b.hidden (lookup (same_name x) es)) (sym same) ∙ ap (λ t. cond t b.hidden (lookup (same_name x) es)) (same-itself b.name)
        ∙ hides ∙ ap (λ y. newest y (reverse rest)) same
    go (inr other) =
        ap (λ t. cond t b.hidden (lookup (same_name x) es)) other ∙ told ∙ ap (newest x) first ∙ ap (λ t. cond t (Some (length (reverse rest))) (newest x (reverse rest))) other

pub popped-linked : (bs rest : List Binding) (b : Binding) → bs ≡ rest ++ b ∷ [] → AreLinked (reverse bs) → AreLinked (reverse rest)
popped-linked bs rest b i linked = (subst AreLinked (popped-first bs rest b i) linked).1

pub ruleset truncating = (one-less, none-less, fewer)
