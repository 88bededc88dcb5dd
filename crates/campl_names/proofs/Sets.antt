-- The words of sets and maps are those of names.
use Rattle.std.proofs.Common.{◌≡◌, refl, ap, Bool, true, false, ◌||◌, List, [], ◌∷◌, ◌++◌, Option, Some, is_some, if◌then◌else◌, cond, true≢false, map}
use Rattle.std.specs.List.{list_any}
use Rattle.std.specs.Map.{lookup}
use Rattle.indexmap.specs.IndexMap.{insert_entry}
use Rattle.campl_types.specs.Names.{Name, same_name, is_among, found}
use Rattle.campl_names.proofs.Judged.{judged}

pub any-among : (x : Name) (ys : List Name) → list_any (same_name x) ys ≡ is_among x ys
any-among x [] = refl
any-among x (y ∷ ys) = ap (λ b. same_name x y || b) (any-among x ys)

pub lookup-found : {A : Type 0} → (x : Name) (es : List (Name × A)) → lookup (same_name x) es ≡ found x es
lookup-found x [] = refl
lookup-found x (e ∷ es) = ap (λ b. if same_name x e.0 then Some e.1 else b) (lookup-found x es)

some-cond : {A : Type 0} → (b : Bool) (v : A) (rest : Option A) (c : Bool) → is_some rest ≡ c → is_some (cond b (Some v) rest) ≡ (b || c)
some-cond true v rest c i = refl
some-cond false v rest c i = i

-- a key is there where its name is among the names
pub some-among : {A : Type 0} → (x : Name) (es : List (Name × A)) → is_some (lookup (same_name x) es) ≡ is_among x (map (λ e. e.0) es)
some-among x [] = refl
some-among x (e ∷ es) = some-cond (same_name x e.0) e.1 (lookup (same_name x) es) (is_among x (map (λ f. f.0) es)) (some-among x es)

some-none : {A : Type 0} → (b : Bool) (v : A) (rest : Option A) → is_some (cond b (Some v) rest) ≡ false → (b ≡ false) × (is_some rest ≡ false)
some-none true v rest i = absurd (true≢false i)
some-none false v rest i = (refl, i)

-- a name that isn't there goes behind the others
pub entry-behind : {A : Type 0} → (x : Name) (v : A) (es : List (Name × A)) → is_some (lookup (same_name x) es) ≡ false → insert_entry same_name es x v ≡ es ++ (x, v) ∷ []
entry-behind x v [] i = refl
entry-behind x v (e ∷ es) i =
    let none = some-none (same_name x e.0) e.1 (lookup (same_name x) es) i in
    rw none.0 (ap (λ t. e ∷ t) (entry-behind x v es none.1))

pub ruleset sets = (any-among, lookup-found)

pub ruleset adding = (lookup-found, some-among, entry-behind, judged)
