-- Names in headers.
use Rattle.std.proofs.Common.{◌≡◌, ◌∙◌, refl, sym, ap, ◌⊎◌, inl, inr, ℕ, ◌+◌, ◌<◌, ◌≤◌, Bool, true, false, ◌||◌, if◌then◌else◌, List, [], ◌∷◌, ◌++◌, map, length, drop, get_or}
use Rattle.std.specs.Borrow.{Bor}
use Rattle.std.proofs.lemmas.List.{drop_all, drop_more}
use Rattle.campl_tree.specs.declared.process.Part.{Part}
use Rattle.campl_tree.specs.View.{parts as part_list}
use Rattle.campl_tree.proofs.Views.{view_part-out}
use Rattle.campl_types.specs.Names.{Name, same_name, is_among}
use Rattle.campl_types.proofs.Names.{split-names, same-itself, or-assoc, among-append}
use Rattle.campl_names.specs.NameSet.{with_name}
use Rattle.campl_names.specs.Scope.{with_names}
use Rattle.campl_peel.specs.Plugging.{stands_in, stands_among}
use Rattle.campl_gen_channels.specs.Orders.{view_part_at}

or-turn : (a b c : Bool) → (a || (b || c)) ≡ (b || (a || c))
or-turn true true c = refl
or-turn true false c = refl
or-turn false true c = refl
or-turn false false c = refl

or-nothing : (a b : Bool) → (a || (b || false)) ≡ (b || a)
or-nothing true true = refl
or-nothing true false = refl
or-nothing false true = refl
or-nothing false false = refl

or-false : (a b : Bool) → (a || (b || false)) ≡ (a || b)
or-false true b = refl
or-false false true = refl
or-false false false = refl

pub among-with : (x y : Name) (vs : List Name) → is_among x (with_name y vs) ≡ (same_name x y || is_among x vs)
among-with x y vs = go (is_among y vs) refl
  where
    there : (x ≡ y) ⊎ (same_name x y ≡ false) → is_among y vs ≡ true → is_among x vs ≡ (same_name x y || is_among x vs)
    there (inl e) i = rw e (rw (same-itself y) i)
    there (inr n) i = rw n refl

    go : (b : Bool) → is_among y vs ≡ b → is_among x (if b then vs else vs ++ y ∷ []) ≡ (same_name x y || is_among x vs)
    go true i = there (split-names x y) i
    go false i = among-append x vs (y ∷ []) ∙ or-nothing (is_among x vs) (same_name x y)

-- a set with more names has those and these
pub among-names : (x : Name) (vs us : List Name) → is_among x (with_names vs us) ≡ (is_among x us || is_among x vs)
among-names x vs [] = refl
among-names x vs (y ∷ us) =
    among-names x (with_name y vs) us ∙ ap (λ z. is_among x us || z) (among-with x y vs) ∙ or-turn (is_among x us) (same_name x y) (is_among x vs)
    ∙ or-assoc (same_name x y) (is_among x us) (is_among x vs)

or-both : (a b : Bool) → (a || (b || false)) ≡ (b || a)
or-both = or-nothing

-- two lists of names as one set
pub among-both : (names us vs : List Name) (x : Name) → names ≡ with_names (with_names [] us) vs → is_among x names ≡ (is_among x us || is_among x vs)
among-both names us vs x is =
    ap (is_among x) is ∙ among-names x (with_names [] us) vs ∙ ap (λ z. is_among x vs || z) (among-names x [] us) ∙ or-both (is_among x vs) (is_among x us)

pub ruleset headers = (view_part-out, among-both)

drop-at : {A : Type 0} (xs : List A) (i : ℕ) (x : A) → i < length xs → x ≡ get_or xs i x → drop i xs ≡ x ∷ drop (i + 1) xs
drop-at xs i x l is = drop_more xs i x l ∙ ap (λ y. y ∷ drop (i + 1) xs) (sym is)

pub among-at : (x : Name) (parts : List (Bor Part)) (i : ℕ) (p : Bor Part) → i < length parts → p ≡ get_or parts i p
    → stands_among (part_list (map view_part_at (drop i parts))) x ≡ (stands_in (view_part_at p).0 x || stands_among (part_list (map view_part_at (drop (i + 1) parts))) x)
among-at x parts i p l is = ap (λ d. stands_among (part_list (map view_part_at d)) x) (drop-at parts i p l is)

pub among-end : (x : Name) (parts : List (Bor Part)) (i : ℕ) → length parts ≤ i → stands_among (part_list (map view_part_at (drop i parts))) x ≡ false
among-end x parts i l = ap (λ d. stands_among (part_list (map view_part_at d)) x) (drop_all i parts l)
