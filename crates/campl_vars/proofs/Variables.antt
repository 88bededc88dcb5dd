-- Variables in scope, and the bindings that hold them.
use Rattle.std.proofs.Common.{append_assoc, length-append, get_or, take, drop, ◌-◌, ◌≤◌, ◌≡◌, ◌∙◌, refl, sym, ap, subst, ℕ, zero, suc, ◌+◌, ◌<◌, Bool, true, false, ◌||◌, cond, List, [], ◌∷◌, ◌++◌, reverse, map, length, Option, Some, None, is_some, option_map, slice_get, if◌then◌else◌, arith}
use Rattle.std.specs.Map.{lookup}
use Rattle.std.proofs.lemmas.List.{reverse-append, reverse-reverse, length-reverse}
use Rattle.campl_tree.specs.View.{view_seq}
use Rattle.campl_types.specs.Names.{Name, same_name, found, is_among}
use Rattle.campl_types.proofs.Names.{same-turned}
use Rattle.campl_vars.specs.declared.vars.Binding.{Binding}
use Rattle.campl_vars.specs.Variables.{variable_names}
use Rattle.campl_vars.specs.Variables.{view_vars, bound, newest, seen_at}

at-end : {A : Type 0} → (xs : List A) (y : A) → slice_get (xs ++ y ∷ []) (length xs) ≡ Some y
at-end [] y = refl
at-end (x ∷ xs) y = at-end xs y

before-end : {A : Type 0} → (xs : List A) (y : A) (n : ℕ) → n < length xs → slice_get (xs ++ y ∷ []) n ≡ slice_get xs n
before-end [] y n i = absurd (let none : ⊥ = omega arith in none)
before-end (x ∷ xs) y zero i = refl
before-end (x ∷ xs) y (suc n) i = before-end xs y n (omega arith)

last-first : {A : Type 0} → (xs : List A) (y : A) → reverse (xs ++ y ∷ []) ≡ y ∷ reverse xs
last-first xs y = reverse-append xs (y ∷ [])

first-last : {A : Type 0} → (y : A) (xs : List A) → reverse (y ∷ xs) ≡ reverse xs ++ y ∷ []
first-last y xs = reverse-append (y ∷ []) xs

newest-within : (x : Name) (bs : List Binding) (n : ℕ) → newest x bs ≡ Some n → n < length bs
newest-within x [] n i = absurd (let none : ⊥ = cc in none)
newest-within x (b ∷ bs) n i = go (same_name b.name x) i (λ j. newest-within x bs n j)
  where
    go : (p : Bool) → cond p (Some (length bs)) (newest x bs) ≡ Some n → (newest x bs ≡ Some n → n < length bs) → n < suc (length bs)
    go true j later = let e : length bs ≡ n = cc in omega (arith, e)
    go false j later = let less : n < length bs = later j in omega (arith, less)

-- What is found

found-newest : (x : Name) (bs : List Binding) → found x (view_vars (bound bs)) ≡ seen_at (reverse bs) (newest x bs)
found-newest x [] = refl
found-newest x (b ∷ bs) = rw (same-turned x b.name, first-last b bs) (go (same_name b.name x) (found-newest x bs))
  where
    kept : (o : Option ℕ) → newest x bs ≡ o → seen_at (reverse bs) o ≡ seen_at (reverse bs ++ b ∷ []) o
    kept None i = refl
    kept (Some n) i =
        let within : n < length (reverse bs) = subst (λ m. n < m) (sym (length-reverse bs)) (newest-within x bs n i) in
        ap (option_map (λ (c : Binding). view_seq c.seq_type)) (sym (before-end (reverse bs) b n within))

    go : (p : Bool) → found x (view_vars (bound bs)) ≡ seen_at (reverse bs) (newest x bs)
        → (if p then Some (view_seq b.seq_type) else found x (view_vars (bound bs))) ≡ seen_at (reverse bs ++ b ∷ []) (cond p (Some (length bs)) (newest x bs))
    go true later =
        sym (ap (option_map (λ (c : Binding). view_seq c.seq_type)) (ap (slice_get (reverse bs ++ b ∷ [])) (sym (length-reverse bs)) ∙ at-end (reverse bs) b))
    go false later = later ∙ kept (newest x bs) refl

-- the entries tell the newest binding of each name
abbrev pub Tell : List (Name × ℕ) → List Binding → Type 0
Tell es bs = (x : Name) → lookup (same_name x) es ≡ newest x (reverse bs)

pub found-told : (x : Name) (es : List (Name × ℕ)) (bs : List Binding) → Tell es bs → found x (view_vars (bound (reverse bs))) ≡ seen_at bs (lookup (same_name x) es)
found-told x es bs tell =
    found-newest x (reverse bs) ∙ ap (λ l. seen_at l (newest x (reverse bs))) (reverse-reverse bs) ∙ ap (seen_at bs) (sym (tell x))

among-newest : (x : Name) (bs : List Binding) → is_some (newest x bs) ≡ is_among x (variable_names (view_vars (bound bs)))
among-newest x [] = refl
among-newest x (b ∷ bs) = rw (same-turned x b.name) (go (same_name b.name x) (among-newest x bs))
  where
    go : (p : Bool) → is_some (newest x bs) ≡ is_among x (variable_names (view_vars (bound bs))) → is_some (cond p (Some (length bs)) (newest x bs)) ≡ (p || is_among x (variable_names (view_vars (bound bs))))
    go true later = refl
    go false later = later

pub among-told : (x : Name) (es : List (Name × ℕ)) (bs : List Binding) → Tell es bs → is_some (lookup (same_name x) es) ≡ is_among x (variable_names (view_vars (bound (reverse bs))))
among-told x es bs tell = ap is_some (tell x) ∙ among-newest x (reverse bs)

-- One more, from the oldest on

take-more : (bs : List Binding) (n : ℕ) (b : Binding) → n < length bs → b ≡ get_or bs n b → take (suc n) bs ≡ take n bs ++ b ∷ []
take-more [] n b within is = absurd (let none : ⊥ = omega arith in none)
take-more (c ∷ bs) zero b within is = ap (λ d. d ∷ []) (sym is)
take-more (c ∷ bs) (suc n) b within is = ap (λ l. c ∷ l) (take-more bs n b (omega arith) is)

pub taken-more : (bs : List Binding) (i : ℕ) (b : Binding) → i < length bs → b ≡ get_or bs i b → bound (reverse (take (i + 1) bs)) ≡ (b.name, b.seq_type) ∷ bound (reverse (take i bs))
taken-more bs i b within is =
    let next : i + 1 ≡ suc i = omega arith in
    ap (λ n. bound (reverse (take n bs))) next ∙ ap (λ l. bound (reverse l)) (take-more bs i b within is) ∙ ap bound (last-first (take i bs) b)

-- One fewer

pub one-less : {A : Type 0} → (xs : List A) (n : ℕ) → n < length xs → drop (length (drop 1 xs) - n) (drop 1 xs) ≡ drop (length xs - n) xs
one-less [] n i = absurd (let none : ⊥ = omega arith in none)
one-less (x ∷ xs) n i = let e : suc (length xs) - n ≡ suc (length xs - n) = omega arith in rw e refl

pub none-less : {A : Type 0} → (xs : List A) (n : ℕ) → length xs ≤ n → drop (length xs - n) xs ≡ xs
none-less xs n i = let e : length xs - n ≡ 0 = omega arith in rw e refl

pub fewer : {A : Type 0} → (xs : List A) → 0 < length xs → length (drop 1 xs) < length xs
fewer [] i = absurd (let none : ⊥ = omega arith in none)
fewer (x ∷ xs) i = omega arith

-- what stood below newer ones
pub below : {A : Type 0} → (xs ys : List A) → drop (length (xs ++ ys) - length ys) (xs ++ ys) ≡ ys
below [] ys = none-less ys (length ys) (omega arith)
below (x ∷ xs) ys =
    let e : suc (length (xs ++ ys)) - length ys ≡ suc (length (xs ++ ys) - length ys) = let l : length (xs ++ ys) ≡ length xs + length ys = length-append xs ys in omega (arith, l) in
    rw e (below xs ys)

pub ruleset appending = (taken-more, append_assoc, below)

pub ruleset truncating = (one-less, none-less, fewer)
