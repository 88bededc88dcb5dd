-- The numbers of functions.
use Rattle.std.proofs.Common.{◌≡◌, ◌∙◌, refl, sym, ap, ℕ, suc, ◌+◌, Bool, true, false, cond, List, Option, Some, None, is_some, option_map, if◌then◌else◌, inl, inr, ◌⊎◌, arith, drop, ◌<◌, ◌≤◌, ◌∷◌, [], map, length, get_or, true≢false}
use Rattle.std.proofs.lemmas.List.{drop_all}
use Rattle.std.specs.Map.{lookup}
use Rattle.campl_tree.specs.declared.decl.Decl.{Decl}
use Rattle.campl_tree.specs.View.{view_decl}
use Rattle.campl_types.specs.Names.{Name, same_name}
use Rattle.campl_types.specs.World.{World}
use Rattle.campl_types.proofs.Names.{split-names}
use Rattle.campl_names.proofs.Sets.{lookup-found, any-among}
use Rattle.campl_seqcheck.proofs.Answered.{drop-at}
use Rattle.campl_code.specs.Generated.{function_number}
use Rattle.campl_gen_exprs.specs.Sources.{known_or, numbered_on}

pub ruleset finding = (lookup-found, any-among)

known-none : (o : Option ℕ) → known_or o None ≡ o
known-none None = refl
known-none (Some n) = refl

some-not : (o : Option ℕ) → is_some o ≡ true → (later : Option ℕ) → o ≡ known_or o later
some-not (Some n) i later = refl
some-not None i later = absurd (true≢false (sym i))

none-so : (o : Option ℕ) → is_some o ≡ false → o ≡ None
none-so None i = refl
none-so (Some n) i = absurd (true≢false i)

-- a name that has a number keeps it
pub noted-already : (es : List (Name × ℕ)) (y : Name) (n : ℕ) (x : Name) → is_some (lookup (same_name y) es) ≡ true
    → lookup (same_name x) es ≡ known_or (lookup (same_name x) es) (cond (same_name y x) (Some n) None)
noted-already es y n x known = go (split-names y x)
  where
    go : (y ≡ x) ⊎ (same_name y x ≡ false) → lookup (same_name x) es ≡ known_or (lookup (same_name x) es) (cond (same_name y x) (Some n) None)
    go (inl same) = some-not (lookup (same_name x) es) (ap (λ z. is_some (lookup (same_name z) es)) (sym same) ∙ known) (cond (same_name y x) (Some n) None)
    go (inr other) = sym (known-none (lookup (same_name x) es)) ∙ ap (λ b. known_or (lookup (same_name x) es) (cond b (Some n) None)) (sym other)

-- one that has none gets it
pub noted-newly : (es : List (Name × ℕ)) (y : Name) (n : ℕ) (x : Name) → is_some (lookup (same_name y) es) ≡ false
    → cond (same_name y x) (Some n) (lookup (same_name x) es) ≡ known_or (lookup (same_name x) es) (cond (same_name y x) (Some n) None)
noted-newly es y n x unknown = go (split-names y x)
  where
    go : (y ≡ x) ⊎ (same_name y x ≡ false) → cond (same_name y x) (Some n) (lookup (same_name x) es) ≡ known_or (lookup (same_name x) es) (cond (same_name y x) (Some n) None)
    go (inl same) =
        let none : lookup (same_name x) es ≡ None = none-so (lookup (same_name x) es) (ap (λ z. is_some (lookup (same_name z) es)) (sym same) ∙ unknown) in
        ap (λ o. cond (same_name y x) (Some n) o) none ∙ ap (λ o. known_or o (cond (same_name y x) (Some n) None)) (sym none)
    go (inr other) =
        ap (λ b. cond b (Some n) (lookup (same_name x) es)) other ∙ sym (known-none (lookup (same_name x) es))
        ∙ ap (λ b. known_or (lookup (same_name x) es) (cond b (Some n) None)) (sym other)

-- behind a function the numbers are one more
pub on-function : (o : Option ℕ) (a b : Bool) (n : ℕ) (behind : Option ℕ) → a ≡ b
    → known_or (known_or o (cond a (Some n) None)) (option_map (λ k. n + 1 + k) behind) ≡ known_or o (option_map (λ k. n + k) (if b then Some 0 else option_map suc behind))
on-function (Some m) true b n behind i = refl
on-function (Some m) false b n behind i = refl
on-function None true b n behind i =
    let z : n ≡ n + 0 = omega arith in
    ap (λ k. Some k) z ∙ ap (λ c. option_map (λ k. n + k) (if c then Some 0 else option_map suc behind)) i
on-function None false b n None i = ap (λ c. option_map (λ k. n + k) (if c then Some 0 else option_map suc None)) i
on-function None false b n (Some m) i =
    let z : n + 1 + m ≡ n + suc m = omega arith in
    ap (λ k. Some k) z ∙ ap (λ c. option_map (λ k. n + k) (if c then Some 0 else option_map suc (Some m))) i

-- the loop over declarations
pub noted-at : (ds : List Decl) (i : ℕ) (d : Decl) → i < length ds → d ≡ get_or ds i d → map view_decl (drop i ds) ≡ view_decl d ∷ map view_decl (drop (i + 1) ds)
noted-at ds i d l is = ap (map view_decl) (drop-at ds i d l is)

pub noted-end : (es : List (Name × ℕ)) (n : ℕ) (ds : List Decl) (i : ℕ) (x : Name) → length ds ≤ i → numbered_on es n (map view_decl (drop i ds)) x ≡ lookup (same_name x) es
noted-end es n ds i x l = ap (λ l. numbered_on es n (map view_decl l) x) (drop_all i ds l) ∙ known-none (lookup (same_name x) es)

shown : (o : Option ℕ) → option_map (λ k. 0 + k) o ≡ o
shown None = refl
shown (Some n) = let z : 0 + n ≡ n = omega arith in ap (λ k. Some k) z

pub noted-start : (w : World) (x : Name) → numbered_on [] 0 w x ≡ function_number w x
noted-start w x = shown (function_number w x)
