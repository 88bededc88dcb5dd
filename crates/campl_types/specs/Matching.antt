-- The matching of a value against a pattern.
use Rattle.std.specs.Prelude.{◌≡◌, ℕ, suc, Bool, true, false, List, [], ◌∷◌, ◌++◌, Option, Some, None, if◌then◌else◌, eqb, option_map, slice_get}
use Rattle.std.specs.Ordering.{int_eq}
use Rattle.campl_tree.specs.Plain.Process.{Body, HcaseRows, no_hcase_rows, hcase_row_then}
use Rattle.campl_value.specs.Tree.{Tree, Trees, Int, Char}
use Rattle.campl_value.specs.Tree as v
use Rattle.campl_types.specs.Names.{Name}
use Rattle.campl_types.specs.Forms.{Form, Forms, Anything, Variable, Number, Character, Truth, Nil, Cons, Pair, Built, none, more}
use Rattle.campl_types.specs.World.{World, constructor_named, number_in}

-- variables with their values, the newest first
abbrev pub Bindings : Type 0
Bindings = List (Name × Tree)

abbrev pub both : Option Bindings → Option Bindings → Option Bindings
both (Some xs) (Some ys) = Some (ys ++ xs)
both (Some xs) None = None
both None other = None

abbrev pub where_holds : Bool → Option Bindings
where_holds b = if b then Some [] else None

abbrev pub same_truth : Bool → Bool → Bool
same_truth true b = b
same_truth false true = false
same_truth false false = true

-- the number of a constructor, by the lines of its declaration from 0
abbrev pub number_of : World → Name → Option ℕ
number_of w k = option_map number_in (constructor_named w k)

abbrev pub is_number : Option ℕ → ℕ → Bool
is_number None n = false
is_number (Some m) n = eqb m n

-- what the pattern's variables stand for, where the value matches
abbrev mutual
  pub matched : World → Form → Tree → Option Bindings
  matched w Anything v = Some []
  matched w (Variable x) v = Some ((x, v) ∷ [])
  matched w (Number n) (Int m) = where_holds (int_eq n m)
  matched w (Character c) (Char d) = where_holds (eqb c d)
  matched w (Truth b) (v.Truth c) = where_holds (same_truth b c)
  matched w Nil v.Nil = Some []
  matched w (Cons p q) (v.Cell head tail) = both (matched w p head) (matched w q tail)
  matched w (Pair p q) (v.Pair a b) = both (matched w p a) (matched w q b)
  matched w (Built k ps) (v.Built n vs) = if is_number (number_of w k) n then all_matched w ps vs else None
  matched w _ _ = None

  pub all_matched : World → Forms → Trees → Option Bindings
  all_matched w none v.none = Some []
  all_matched w (more p ps) (v.more v vs) = both (matched w p v) (all_matched w ps vs)
  all_matched w _ _ = None

-- a row of patterns against as many values
abbrev pub row_matched : World → List Form → List Tree → Option Bindings
row_matched w [] [] = Some []
row_matched w (p ∷ ps) (v ∷ vs) = both (matched w p v) (row_matched w ps vs)
row_matched w [] (v ∷ vs) = None
row_matched w (p ∷ ps) [] = None

-- the first row that matches: its place among the rows, from 0, and what it binds
abbrev pub next_row : Option (ℕ × Bindings) → Option (ℕ × Bindings)
next_row = option_map (λ (r : ℕ × Bindings). (suc r.0, r.1))

abbrev pub or_next : Option Bindings → Option (ℕ × Bindings) → Option (ℕ × Bindings)
or_next (Some xs) later = Some (0, xs)
or_next None later = next_row later

abbrev pub first_match : World → List (List Form) → List Tree → Option (ℕ × Bindings)
first_match w [] vs = None
first_match w (r ∷ rows) vs = or_next (row_matched w r vs) (first_match w rows vs)

-- there is a first row that matches: its place, and what it binds
abbrev pub SomeRowMatches : World → List (List Form) → List Tree → Type 0
SomeRowMatches w rows vs =
    (r : ℕ × Bindings) × (first_match w rows vs ≡ Some r) × (row : List Form) × (slice_get rows r.0 ≡ Some row) × (row_matched w row vs ≡ Some r.1)

-- the row of `hcase` whose constructor has this number
abbrev pub row_picked : World → ℕ → HcaseRows → Option Body
row_picked w n no_hcase_rows = None
row_picked w n (hcase_row_then k body rows) = if is_number (number_of w k.name) n then Some body else row_picked w n rows
