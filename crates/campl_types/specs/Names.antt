-- Names, and what is found by a name.
use Rattle.std.specs.Prelude.{◌≡◌, ℕ, Bool, true, false, ◌&&◌, ◌||◌, not, List, [], ◌∷◌, Option, Some, None, if◌then◌else◌, nat_eq}
use Rattle.std.specs.Cmp.Lexicographic.{pointwise}

-- whether there is none
abbrev pub is_empty : {A : Type 0} → List A → Bool
is_empty [] = true
is_empty (x ∷ xs) = false

-- a name is its characters
abbrev pub Name : Type 0
Name = List ℕ

abbrev pub same_name : Name → Name → Bool
same_name = pointwise nat_eq

abbrev pub is_among : Name → List Name → Bool
is_among x [] = false
is_among x (y ∷ ys) = same_name x y || is_among x ys

abbrev pub all_among : List Name → List Name → Bool
all_among [] ys = true
all_among (x ∷ xs) ys = is_among x ys && all_among xs ys

abbrev pub are_distinct : List Name → Bool
are_distinct [] = true
are_distinct (x ∷ xs) = not (is_among x xs) && are_distinct xs

-- what stands under a name first
abbrev pub found : {A : Type 0} → Name → List (Name × A) → Option A
found x [] = None
found x (e ∷ es) = if same_name x e.0 then Some e.1 else found x es

abbrev pub without : Name → List Name → List Name
without x [] = []
without x (y ∷ ys) = if same_name x y then without x ys else y ∷ without x ys

-- the same names, each where it stands first
abbrev pub once : List Name → List Name
once [] = []
once (x ∷ xs) = x ∷ without x (once xs)

-- each of these names is among those
abbrev pub Within : List Name → List Name → Type 0
Within ks bs = (x : Name) → is_among x ks ≡ true → is_among x bs ≡ true
