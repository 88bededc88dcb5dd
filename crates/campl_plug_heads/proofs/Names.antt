-- The names of headers in lists, sets and maps.
use Rattle.std.proofs.Common.{◌≡◌, ◌∙◌, refl, ap, ◌⊎◌, inl, inr, ℕ, Bool, true, false, ◌||◌, if◌then◌else◌, List, [], ◌∷◌, ◌++◌, sym}
use Rattle.campl_tree.specs.declared.place.Ident.{Ident}
use Rattle.campl_tree.proofs.Views.{view_part-out}
use Rattle.campl_types.specs.Names.{Name, same_name, is_among}
use Rattle.campl_types.specs.World.{names_of}
use Rattle.campl_types.proofs.Names.{split-names, same-itself}
use Rattle.campl_names.specs.NameSet.{HaveSame, with_name}
use Rattle.campl_names.specs.Scope.{with_names}
use Rattle.campl_names.proofs.Declared.{among-behind}
use Rattle.campl_names.proofs.Scopes.{with-append}
use Rattle.indexmap.specs.IndexMap.{insert_entry}
use Rattle.campl_names.proofs.Sets.{lookup-found, some-among, entry-behind}
use Rattle.campl_plug_heads.specs.Heads.{Numbered, names_in, marked}
use mathlib.Core.Bool.{or-false, or_assoc, or_comm}

among-with : (x y : Name) (vs : List Name) → is_among x (with_name y vs) ≡ (same_name x y || is_among x vs)
among-with x y vs = go (is_among y vs) refl
  where
    there : (x ≡ y) ⊎ (same_name x y ≡ false) → is_among y vs ≡ true → is_among x vs ≡ (same_name x y || is_among x vs)
    there (inl e) i = rw e (rw (same-itself y) i)
    there (inr n) i = rw n refl

    go : (b : Bool) → is_among y vs ≡ b → is_among x (if b then vs else vs ++ y ∷ []) ≡ (same_name x y || is_among x vs)
    go true i = there (split-names x y) i
    go false i = among-behind x y vs

-- a set with more names has those and these
pub among-names : (x : Name) (vs us : List Name) → is_among x (with_names vs us) ≡ (is_among x us || is_among x vs)
among-names x vs [] = refl
among-names x vs (y ∷ us) =
    among-names x (with_name y vs) us ∙ ap (λ z. is_among x us || z) (among-with x y vs) ∙ sym (or_assoc (is_among x us) (same_name x y) (is_among x vs))
    ∙ ap (λ z. z || is_among x vs) (or_comm (is_among x us) (same_name x y))

pub names-marked : (n : ℕ) (xs : List Ident) → names_in (marked n xs) ≡ names_of xs
names-marked n [] = refl
names-marked n (x ∷ xs) = ap (λ r. x.name ∷ r) (names-marked n xs)

pub names-append : (es fs : Numbered) → names_in (es ++ fs) ≡ names_in es ++ names_in fs
names-append [] fs = refl
names-append (e ∷ es) fs = ap (λ r. e.0 ∷ r) (names-append es fs)

-- a set of names has those names
pub same-set : (us : List Name) → HaveSame (with_names [] us) us
same-set us x = among-names x [] us ∙ or-false (is_among x us)

pub put-behind : (x y : Name) (n : ℕ) (es after : Numbered) → y ≡ x → is_among x (names_in es) ≡ false → after ≡ insert_entry same_name es y n → after ≡ es ++ (x, n) ∷ []
put-behind x y n es after i j k = k ∙ ap (λ z. insert_entry same_name es z n) i ∙ entry-behind x n es (some-among x es ∙ j)

pub ruleset maps = (lookup-found, some-among, put-behind)

pub ruleset headers = (view_part-out, with-append)
