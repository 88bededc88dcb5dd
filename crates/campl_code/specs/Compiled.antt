-- A decision for rows of patterns. A row is a list of tests, each that the value at a place has a head. The first test
-- of the first row is made. Where it holds, it is left out everywhere, and rows that want another head there are too;
-- where it doesn't hold, the rows that make it are left out.
use Rattle.std.specs.Prelude.{ℕ, zero, suc, ◌+◌, Bool, true, false, ◌&&◌, List, [], ◌∷◌, ◌++◌, Option, Some, None, if◌then◌else◌, eqb, length, map}
use Rattle.campl_types.specs.Names.{same_name}
use Rattle.campl_types.specs.Forms as form
use Rattle.campl_types.specs.Forms.{Form, Forms}
use Rattle.campl_types.specs.Matching.{number_of}
use Rattle.campl_types.specs.World.{World}
use Rattle.campl_code.specs.Decisions.{Head, Spot, Choice, Row, Test, Fail, Decision, same_head, row_names}

abbrev pub Asked : Type 0
Asked = Spot × Head

-- a row's number, its tests, and the places of its variables in order
pub record Flat : Type 0 where
  pub number : ℕ
  pub tests : List Asked
  pub spots : List Spot

-- no value has it: there is nothing at this place
abbrev pub never : Asked
never = ([], Head.Nil)

abbrev pub count_forms : Forms → ℕ
count_forms form.none = 0
count_forms (form.more p ps) = suc (count_forms ps)

abbrev pub built_test : Option ℕ → Spot → ℕ → Asked
built_test None s n = never
built_test (Some k) s n = (s, Head.Built k n)

-- what a form asks of the value at a place
abbrev mutual
  pub tests_in : World → Spot → Form → List Asked
  tests_in w s form.Anything = []
  tests_in w s (form.Variable x) = []
  tests_in w s (form.Number n) = (s, Head.Int n) ∷ []
  tests_in w s (form.Character c) = (s, Head.Char c) ∷ []
  tests_in w s (form.Truth b) = (s, Head.Truth b) ∷ []
  tests_in w s form.Nil = (s, Head.Nil) ∷ []
  tests_in w s (form.Cons p q) = (s, Head.Cell) ∷ (tests_in w (s ++ 0 ∷ []) p ++ tests_in w (s ++ 1 ∷ []) q)
  tests_in w s (form.Pair p q) = (s, Head.Pair) ∷ (tests_in w (s ++ 0 ∷ []) p ++ tests_in w (s ++ 1 ∷ []) q)
  tests_in w s (form.Built k ps) = built_test (number_of w k) s (count_forms ps) ∷ tests_in_parts w s 0 ps

  pub tests_in_parts : World → Spot → ℕ → Forms → List Asked
  tests_in_parts w s i form.none = []
  tests_in_parts w s i (form.more p ps) = tests_in w (s ++ i ∷ []) p ++ tests_in_parts w s (suc i) ps

-- the places of a form's variables
abbrev mutual
  pub spots_in : Spot → Form → List Spot
  spots_in s form.Anything = []
  spots_in s (form.Variable x) = s ∷ []
  spots_in s (form.Number n) = []
  spots_in s (form.Character c) = []
  spots_in s (form.Truth b) = []
  spots_in s form.Nil = []
  spots_in s (form.Cons p q) = spots_in (s ++ 0 ∷ []) p ++ spots_in (s ++ 1 ∷ []) q
  spots_in s (form.Pair p q) = spots_in (s ++ 0 ∷ []) p ++ spots_in (s ++ 1 ∷ []) q
  spots_in s (form.Built k ps) = spots_in_parts s 0 ps

  pub spots_in_parts : Spot → ℕ → Forms → List Spot
  spots_in_parts s i form.none = []
  spots_in_parts s i (form.more p ps) = spots_in (s ++ i ∷ []) p ++ spots_in_parts s (suc i) ps

-- of a row of forms, for the values from number i on
abbrev pub row_tests : World → ℕ → List Form → List Asked
row_tests w i [] = []
row_tests w i (p ∷ ps) = tests_in w (i ∷ []) p ++ row_tests w (suc i) ps

abbrev pub row_spots : ℕ → List Form → List Spot
row_spots i [] = []
row_spots i (p ∷ ps) = spots_in (i ∷ []) p ++ row_spots (suc i) ps

-- a row that hasn't as many patterns as there are values never matches
abbrev pub flat_tests : World → ℕ → List Form → List Asked
flat_tests w n r = if eqb (length r) n then row_tests w 0 r else never ∷ []

abbrev pub flat_rows : World → ℕ → ℕ → List (List Form) → List Flat
flat_rows w n i [] = []
flat_rows w n i (r ∷ rows) = record { number = i; tests = flat_tests w n r; spots = row_spots 0 r } ∷ flat_rows w n (suc i) rows

-- Where a test holds

abbrev pub same_asked : Asked → Asked → Bool
same_asked a b = same_name a.0 b.0 && same_head a.1 b.1

abbrev pub settled : Asked → List Asked → List Asked
settled a [] = []
settled a (t ∷ ts) = if same_asked a t then settled a ts else t ∷ settled a ts

-- a test at the same place for another head
abbrev pub is_against : Asked → Asked → Bool
is_against a t = if same_name a.0 t.0 then (if same_head a.1 t.1 then false else true) else false

abbrev pub is_refuted : Asked → List Asked → Bool
is_refuted a [] = false
is_refuted a (t ∷ ts) = if is_against a t then true else is_refuted a ts

abbrev pub where_holds : Asked → List Flat → List Flat
where_holds a [] = []
where_holds a (r ∷ rows) =
    if is_refuted a r.tests then where_holds a rows else record r { tests = settled a r.tests } ∷ where_holds a rows

-- Where it doesn't

abbrev pub is_asked : Asked → List Asked → Bool
is_asked a [] = false
is_asked a (t ∷ ts) = if same_asked a t then true else is_asked a ts

abbrev pub where_fails : Asked → List Flat → List Flat
where_fails a [] = []
where_fails a (r ∷ rows) = if is_asked a r.tests then where_fails a rows else r ∷ where_fails a rows

-- The tree

abbrev pub first_test : (List Flat → Choice) → Flat → List Flat → List Asked → Choice
first_test rest r rows [] = Row r.number r.spots
first_test rest r rows (a ∷ tests) = Test a.0 a.1 (rest (where_holds a (r ∷ rows))) (rest (where_fails a rows))

abbrev pub first_row : (List Flat → Choice) → List Flat → Choice
first_row rest [] = Fail
first_row rest (r ∷ rows) = first_test rest r rows r.tests

-- with at most so many tests one behind another
abbrev pub tree_of : ℕ → List Flat → Choice
tree_of zero = first_row (λ rows. Fail)
tree_of (suc n) = first_row (tree_of n)

-- how many tests the rows have
abbrev pub weight : List Flat → ℕ
weight [] = 0
weight (r ∷ rows) = length r.tests + weight rows

-- a decision for rows of n patterns
abbrev pub decision_for : World → ℕ → List (List Form) → Decision
decision_for w n rows = record {
  width = n;
  bound = map (λ (r : List Form). length (row_names r)) rows;
  tree = tree_of (weight (flat_rows w n 0 rows)) (flat_rows w n 0 rows);
}
