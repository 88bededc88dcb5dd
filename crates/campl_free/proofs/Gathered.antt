-- What parts of a walk add, taken together.
use Rattle.std.proofs.Common.{◌≡◌, ◌∙◌, refl, sym, ap, subst, ◌⊎◌, inl, inr, Bool, true, false, not, ◌&&◌, ◌||◌, List, [], ◌∷◌, ◌++◌, append_assoc, append-nil, if◌then◌else◌, length, take, ℕ, ◌+◌, ◌<◌, drop, get_or, map}
use Rattle.std.proofs.lemmas.List.{take_at, drop_more}
use Rattle.campl_tree.specs.declared.place.Ident.{Ident}
use Rattle.campl_tree.specs.declared.process.Action as code
use Rattle.campl_tree.specs.Plain.Process.{Action, Body}
use Rattle.campl_tree.specs.View.{view_action}
use Rattle.campl_types.specs.Names.{Name, same_name, is_among}
use Rattle.campl_types.specs.World.{names_of}
use Rattle.campl_types.specs.Free.{channel_of, channels_bound, is_free}
use Rattle.campl_types.proofs.Names.{same-itself, split-names}
use Rattle.campl_names.specs.NameSet.{with_name}
use Rattle.campl_names.specs.Scope.{with_names}
use Rattle.campl_names.proofs.Declared.{among-behind}
use Rattle.campl_free.specs.Gathers.{Test, Gathers, nothing, is_name, is_one_of, either_of, under, free_in, inside, behind}
use mathlib.Core.Bool.{or_assoc, or_comm}

-- Sets

pub among-with : (x y : Name) (vs : List Name) → is_among x (with_name y vs) ≡ (same_name x y || is_among x vs)
among-with x y vs = go (is_among y vs) refl
  where
    there : (x ≡ y) ⊎ (same_name x y ≡ false) → is_among y vs ≡ true → is_among x vs ≡ (same_name x y || is_among x vs)
    there (inl e) i = rw e (rw (same-itself y) i)
    there (inr n) i = rw n refl

    go : (b : Bool) → is_among y vs ≡ b → is_among x (if b then vs else vs ++ y ∷ []) ≡ (same_name x y || is_among x vs)
    go true i = there (split-names x y) i
    go false i = among-behind x y vs

among-names : (x : Name) (vs us : List Name) → is_among x (with_names vs us) ≡ (is_among x us || is_among x vs)
among-names x vs [] = refl
among-names x vs (y ∷ us) =
    among-names x (with_name y vs) us ∙ ap (λ b. is_among x us || b) (among-with x y vs) ∙ sym (or_assoc (is_among x us) (same_name x y) (is_among x vs))
    ∙ ap (λ z. z || is_among x vs) (or_comm (is_among x us) (same_name x y))

extended : (vs us : List Name) → (more : List Name) × (with_names vs us ≡ vs ++ more)
extended vs [] = ([], sym (append-nil vs))
extended vs (y ∷ us) = go (is_among y vs) (extended (with_name y vs) us)
  where
    go : (b : Bool) → ((more : List Name) × (with_names (with_name y vs) us ≡ (if b then vs else vs ++ y ∷ []) ++ more)) → (more : List Name) × (with_names (with_name y vs) us ≡ vs ++ more)
    go true r = r
    go false r = (y ∷ r.0, r.1 ∙ append_assoc vs (y ∷ []) r.0)

extended-inside : (vs : List Name) (actions : List Action) → (more : List Name) × (inside vs actions ≡ vs ++ more)
extended-inside vs [] = ([], sym (append-nil vs))
extended-inside vs (a ∷ actions) =
    let r = extended vs (channels_bound a) in
    let q = extended-inside (with_names vs (channels_bound a)) actions in
    (r.0 ++ q.0, q.1 ∙ ap (λ x. x ++ q.0) r.1 ∙ append_assoc vs r.0 q.0)

-- what was bound before commands stands first
pub kept-inside : (vs : List Name) (actions : List Action) → take (length vs) (inside vs actions) ≡ vs
kept-inside vs actions =
    let r = extended-inside vs actions in
    ap (take (length vs)) r.1 ∙ take_at vs r.0 (length vs) refl

-- Tests

or-none : (a b : Bool) → a ≡ (a || (b && false))
or-none true b = refl
or-none false true = refl
or-none false false = refl

or-both : (a b f g : Bool) → ((a || (b && f)) || (b && g)) ≡ (a || (b && (f || g)))
or-both true b f g = refl
or-both false true f g = refl
or-both false false f g = refl

or-under : (a x b f : Bool) → (a || (not (x || b) && f)) ≡ (a || (not b && (not x && f)))
or-under true x b f = refl
or-under false true true f = refl
or-under false true false f = refl
or-under false false true f = refl
or-under false false false f = refl

pub gathers-nothing : (bound found : List Name) → Gathers bound nothing found found
unfolding nothing
gathers-nothing bound found = record { told = λ n. or-none (is_among n found) (not (is_among n bound)) }

pub gathers-none : (bound found : List Name) → Gathers bound (is_one_of []) found found
unfolding is_one_of
gathers-none bound found = record { told = λ n. or-none (is_among n found) (not (is_among n bound)) }

pub gathers-both : (bound : List Name) (f g : Test) (old mid new : List Name) → Gathers bound f old mid → Gathers bound g mid new → Gathers bound (either_of f g) old new
unfolding either_of
gathers-both bound f g old mid new a b =
    record { told = λ n. b.told n ∙ ap (λ h. h || (not (is_among n bound) && g n)) (a.told n) ∙ or-both (is_among n old) (not (is_among n bound)) (f n) (g n) }

pub gathers-under : (bound xs : List Name) (f : Test) (old new : List Name) → Gathers (with_names bound xs) f old new → Gathers bound (under xs f) old new
unfolding under
gathers-under bound xs f old new a =
    record { told = λ n. a.told n ∙ ap (λ h. is_among n old || (not h && f n)) (among-names n bound xs) ∙ or-under (is_among n old) (is_among n xs) (is_among n bound) (f n) }

pub same-test : (bound : List Name) (f g : Test) (old new : List Name) → f ≡ g → Gathers bound f old new → Gathers bound g old new
same-test bound f g old new i a = subst (λ h. Gathers bound h old new) i a

-- One name

pub name-bound : (bound found : List Name) (x : Name) → is_among x bound ≡ true → Gathers bound (is_name x) found found
unfolding is_name
name-bound bound found x i = record { told = λ n. go n (split-names n x) }
  where
    go : (n : Name) → (n ≡ x) ⊎ (same_name n x ≡ false) → is_among n found ≡ (is_among n found || (not (is_among n bound) && same_name n x))
    go n (inl e) = rw (e, i) (or-none (is_among x found) false)
    go n (inr e) = rw e (or-none (is_among n found) (not (is_among n bound)))

pub name-found : (bound found new : List Name) (x : Name) → is_among x bound ≡ false → new ≡ with_name x found → Gathers bound (is_name x) found new
unfolding is_name
name-found bound found new x i e = record { told = λ n. ap (is_among n) e ∙ among-with n x found ∙ go n (split-names n x) }
  where
    last : (a b : Bool) → (a || b) ≡ (b || (true && a))
    last true true = refl
    last true false = refl
    last false true = refl
    last false false = refl

    go : (n : Name) → (n ≡ x) ⊎ (same_name n x ≡ false) → (same_name n x || is_among n found) ≡ (is_among n found || (not (is_among n bound) && same_name n x))
    go n (inl j) = rw (j, i) (last (same_name x x) (is_among x found))
    go n (inr j) = rw j (or-none (is_among n found) (not (is_among n bound)))

-- One turn of a loop

pub turn : {Goal : Type 0} (bound : List Name) (rest one next : Test) (now then' final : List Name)
    → (Gathers bound rest now final → Goal) → rest ≡ either_of one next → Gathers bound one now then' → Gathers bound next then' final → Goal
turn bound rest one next now then' final goal i a b = goal (subst (λ h. Gathers bound h now final) (sym i) (gathers-both bound one next now then' final a b))

pub drop-at : {A : Type 0} (xs : List A) (i : ℕ) (x : A) → i < length xs → x ≡ get_or xs i x → drop i xs ≡ x ∷ drop (i + 1) xs
drop-at xs i x l is = drop_more xs i x l ∙ ap (λ y. y ∷ drop (i + 1) xs) (sym is)

pub names-at : (xs : List Ident) (i : ℕ) (x : Ident) → i < length xs → x ≡ get_or xs i x
    → is_one_of (names_of (drop i xs)) ≡ either_of (is_name x.name) (is_one_of (names_of (drop (i + 1) xs)))
unfolding is_one_of either_of is_name
names-at xs i x l is = ap (λ ys. λ n. is_among n (names_of ys)) (drop-at xs i x l is)

pub actions-at : (xs : List code.Action) (last : Test) (i : ℕ) (x : code.Action) → i < length xs → x ≡ get_or xs i x
    → behind (map view_action (drop i xs)) last ≡ either_of (is_name (channel_of (view_action x))) (under (channels_bound (view_action x)) (behind (map view_action (drop (i + 1) xs)) last))
actions-at xs last i x l is = ap (λ ys. behind (map view_action ys) last) (drop-at xs i x l is)

-- Bodies

-- the names found are those that are free in a body, where nothing is bound round it
pub gathers-whole : (body : Body) (found : List Name) → Gathers [] (free_in body) [] found → (n : Name) → is_among n found ≡ is_free n body
unfolding free_in
gathers-whole body found a n = a.told n

pub ruleset gathered = (gathers-nothing, gathers-none)

pub ruleset one_name = (name-bound, name-found)

pub ruleset whole = (gathers-whole)
