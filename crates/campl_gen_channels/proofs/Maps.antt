-- Maps from names to numbers as lists of channels.
use Rattle.std.proofs.Common.{◌≡◌, ◌∙◌, refl, sym, ap, ℕ, zero, suc, ◌+◌, ◌<◌, ◌≤◌, Bool, true, false, not, cond, List, [], ◌∷◌, ◌++◌, Option, Some, None, is_some, if◌then◌else◌, length, drop, slice_get, get_or, append_assoc, true≢false, inl, inr, ◌⊎◌, arith}
use Rattle.std.specs.Map.{lookup}
use Rattle.std.proofs.lemmas.List.{drop_all, drop_more}
use Rattle.indexmap.specs.IndexMap.{insert_entry}
use Rattle.campl_tree.specs.declared.place.Ident.{Ident}
use Rattle.campl_types.specs.Names.{Name, same_name, found}
use Rattle.campl_types.proofs.Names.{same-turned, same-is}
use Rattle.campl_names.proofs.Sets.{lookup-found, entry-behind}
use Rattle.campl_peel.specs.Terms.{those}
use Rattle.campl_code_bodies.specs.Bodies.{Channels, without, channel_numbers}
use Rattle.campl_code_bodies.specs.BodyCode.{number, all_numbers}
use Rattle.campl_gen_channels.specs.Numbers.{NumbersAlike}
use Rattle.campl_gen_channels.specs.View.{one_entry, is_kept}
use Rattle.campl_gen_channels.proofs.Alike.{found-without, found-those, alike-itself, alike-on, those-so}

-- a name that gets a number, and one that goes
pub told-put : (es fs : Channels) (y : Name) (n : ℕ) → ((x : Name) → lookup (same_name x) fs ≡ cond (same_name y x) (Some n) (lookup (same_name x) es)) → NumbersAlike fs ((y, n) ∷ es)
told-put es fs y n told = record {
  told = λ x.
      sym (lookup-found x fs) ∙ told x ∙ ap (λ o. cond (same_name y x) (Some n) o) (lookup-found x es) ∙ ap (λ c. cond c (Some n) (found x es)) (same-turned y x);
}

pub told-forget : (es fs : Channels) (y : Name) → ((x : Name) → lookup (same_name x) fs ≡ cond (same_name y x) None (lookup (same_name x) es)) → NumbersAlike fs (without y es)
told-forget es fs y told = record {
  told = λ x. sym (lookup-found x fs) ∙ told x ∙ ap (λ o. cond (same_name y x) None o) (lookup-found x es) ∙ sym (found-without y es x);
}

pub ruleset maps = (lookup-found, told-put, told-forget)

-- Behind the others

other-found : (x y : Name) (n : ℕ) (es : Channels) → same_name x y ≡ false → found x es ≡ found x (es ++ (y, n) ∷ [])
other-found x y n [] i = sym (ap (λ b. if b then Some n else None) i)
other-found x y n (e ∷ es) i = ap (λ o. if same_name x e.0 then Some e.1 else o) (other-found x y n es i)

known-found : (x y : Name) (n : ℕ) (es : Channels) → is_some (found y es) ≡ true → found x es ≡ found x (es ++ (y, n) ∷ [])
known-found x y n [] i = absurd (true≢false (sym i))
known-found x y n (e ∷ es) i = go (same_name x e.0) refl (same_name y e.0) refl (known-found x y n es) (other-found x y n es)
  where
    go : (b : Bool) → same_name x e.0 ≡ b → (c : Bool) → same_name y e.0 ≡ c → (is_some (found y es) ≡ true → found x es ≡ found x (es ++ (y, n) ∷ []))
        → (same_name x y ≡ false → found x es ≡ found x (es ++ (y, n) ∷ []))
        → (if b then Some e.1 else found x es) ≡ (if b then Some e.1 else found x (es ++ (y, n) ∷ []))
    go true j c k later other = refl
    go false j false k later other = later (ap is_some (ap (λ d. if d then Some e.1 else found y es) (sym k)) ∙ i)
    go false j true k later other = other (ap (same_name x) (same-is y e.0 k) ∙ j)

pub told-known : (es : Channels) (y : Name) (n : ℕ) → is_some (lookup (same_name y) es) ≡ true → NumbersAlike es (es ++ (y, n) ∷ [])
told-known es y n i = record { told = λ x. known-found x y n es (ap is_some (sym (lookup-found y es)) ∙ i) }

pub told-new : (es fs : Channels) (x y : Name) (n : ℕ) → x ≡ y → is_some (lookup (same_name y) es) ≡ false → fs ≡ insert_entry same_name es x n → NumbersAlike fs (es ++ (y, n) ∷ [])
told-new es fs x y n same none is = record { told = λ z. ap (found z) (is ∙ ap (λ v. insert_entry same_name es v n) same ∙ entry-behind y n es none) }

pub append-nothing : {A : Type 0} (xs : List A) → xs ++ [] ≡ xs
append-nothing [] = refl
append-nothing (x ∷ xs) = ap (λ (l : List _). x ∷ l) (append-nothing xs)

pub nothing-more : (es : Channels) → NumbersAlike es (es ++ [])
nothing-more es = record { told = λ x. ap (found x) (sym (append-nothing es)) }

pub ruleset behind = (told-known, told-new, nothing-more)

-- Loops

abbrev either : Option ℕ → Option ℕ → Option ℕ
either (Some n) o = Some n
either None o = o

found-append : (x : Name) (es fs : Channels) → found x (es ++ fs) ≡ either (found x es) (found x fs)
found-append x [] fs = refl
found-append x (e ∷ es) fs = go (same_name x e.0) (found-append x es fs)
  where
    go : (b : Bool) → found x (es ++ fs) ≡ either (found x es) (found x fs) → (if b then Some e.1 else found x (es ++ fs)) ≡ either (if b then Some e.1 else found x es) (found x fs)
    go true later = refl
    go false later = later

pub alike-append : (es fs gs : Channels) → NumbersAlike es fs → NumbersAlike (es ++ gs) (fs ++ gs)
alike-append es fs gs same = record { told = λ x. found-append x es gs ∙ ap (λ o. either o (found x gs)) (same.told x) ∙ sym (found-append x fs gs) }

pub alike-so : (es fs : Channels) → es ≡ fs → NumbersAlike es fs
alike-so es fs is = record { told = λ x. ap (found x) is }

-- one more channel comes
pub come-at : (es fs : Channels) (n : ℕ) (xs : List Ident) (i : ℕ) (x : Ident) → i < length xs → x ≡ get_or xs i x → NumbersAlike fs (es ++ (x.name, n) ∷ [])
    → NumbersAlike (fs ++ channel_numbers (suc n) (drop (i + 1) xs)) (es ++ channel_numbers n (drop i xs))
come-at es fs n xs i x l is same =
    let rest = channel_numbers (suc n) (drop (i + 1) xs) in
    alike-on (fs ++ rest) ((es ++ (x.name, n) ∷ []) ++ rest) (es ++ channel_numbers n (drop i xs))
    (alike-append fs (es ++ (x.name, n) ∷ []) rest same)
    (alike-so ((es ++ (x.name, n) ∷ []) ++ rest) (es ++ channel_numbers n (drop i xs))
    (append_assoc es ((x.name, n) ∷ []) rest ∙ ap (λ l. es ++ channel_numbers n l) (sym (drop_more xs i x l ∙ ap (λ y. y ∷ drop (i + 1) xs) (sym is)))))

pub one-fewer : (xs : List Ident) (i : ℕ) (x : Ident) → i < length xs → x ≡ get_or xs i x → length (drop i xs) ≡ length (drop (i + 1) xs) + 1
one-fewer xs i x l is = let h : length (drop i xs) ≡ suc (length (drop (i + 1) xs)) = ap length (drop_more xs i x l) in omega (arith, h)

pub come-end : (es : Channels) (n : ℕ) (xs : List Ident) (i : ℕ) → length xs ≤ i → NumbersAlike es (es ++ channel_numbers n (drop i xs))
come-end es n xs i l = alike-so es (es ++ channel_numbers n (drop i xs)) (sym (ap (λ d. es ++ channel_numbers n d) (drop_all i xs l) ∙ append-nothing es))

pub numbers-at : (cs : Channels) (xs : List Ident) (i : ℕ) (x : Ident) → i < length xs → x ≡ get_or xs i x → all_numbers (drop i xs) cs ≡ number x.name cs ∷ all_numbers (drop (i + 1) xs) cs
numbers-at cs xs i x l is = ap (λ d. all_numbers d cs) (drop_more xs i x l ∙ ap (λ y. y ∷ drop (i + 1) xs) (sym is))

drop-one : (es : Channels) (i : ℕ) → drop i es ≡ one_entry (slice_get es i) ++ drop (suc i) es
drop-one [] zero = refl
drop-one [] (suc i) = refl
drop-one (e ∷ es) zero = refl
drop-one (e ∷ es) (suc i) = drop-one es i

those-append : (keep : Name → Bool) (es fs : Channels) → those keep (es ++ fs) ≡ those keep es ++ those keep fs
those-append keep [] fs = refl
those-append keep (e ∷ es) fs = go (keep e.0) (those-append keep es fs)
  where
    go : (b : Bool) → those keep (es ++ fs) ≡ those keep es ++ those keep fs
        → (if b then e ∷ those keep (es ++ fs) else those keep (es ++ fs)) ≡ (if b then e ∷ those keep es else those keep es) ++ those keep fs
    go true later = ap (λ l. e ∷ l) later
    go false later = later

-- one more entry is looked at
pub those-at : (keep : Name → Bool) (all es fs : Channels) (i : ℕ) → NumbersAlike fs (es ++ those keep (one_entry (slice_get all i)))
    → NumbersAlike (fs ++ those keep (drop (i + 1) all)) (es ++ those keep (drop i all))
those-at keep all es fs i same =
    let one : i + 1 ≡ suc i = omega arith in
    let here = those keep (one_entry (slice_get all i)) in
    alike-on (fs ++ those keep (drop (i + 1) all)) ((es ++ here) ++ those keep (drop (i + 1) all)) (es ++ those keep (drop i all))
    (alike-append fs (es ++ here) (those keep (drop (i + 1) all)) same)
    (alike-so ((es ++ here) ++ those keep (drop (i + 1) all)) (es ++ those keep (drop i all))
    (append_assoc es here (those keep (drop (i + 1) all)) ∙ ap (λ k. es ++ (here ++ those keep (drop k all))) one
    ∙ ap (λ l. es ++ l) (sym (ap (those keep) (drop-one all i) ∙ those-append keep (one_entry (slice_get all i)) (drop (suc i) all)))))

pub those-end : (keep : Name → Bool) (all es : Channels) (i : ℕ) → length all ≤ i → NumbersAlike es (es ++ those keep (drop i all))
those-end keep all es i l = alike-so es (es ++ those keep (drop i all)) (sym (ap (λ d. es ++ those keep d) (drop_all i all l) ∙ append-nothing es))

-- Copies

those-all : (es : Channels) → those (is_kept false []) es ≡ es
those-all [] = refl
those-all (e ∷ es) = ap (λ l. e ∷ l) (those-all es)

pub copied : (es fs : Channels) (names : List Name) → names ≡ [] → NumbersAlike fs (those (is_kept false names) es) → NumbersAlike fs es
copied es fs names is same = alike-on fs (those (is_kept false names) es) es same (alike-so (those (is_kept false names) es) es (ap (λ ns. those (is_kept false ns) es) is ∙ those-all es))

pub ruleset copies = (copied)
