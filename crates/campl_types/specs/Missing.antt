-- The missing pattern. Of rows of patterns for some types it is the first list of patterns, in a fixed
-- order of trials, that no row covers:
--
-- - With no types left it is the empty list where there are no rows, and none otherwise.
-- - With no rows it is `_` for each type.
-- - Where the first column has only variables and `_`, it is `_` followed by what is missing in the
--   other columns.
-- - Otherwise heads are tried in order: for Bool True, then False; for lists `[]`, then `:`; the pair; the
--   constructors of a data type as declared; for Int and Char the literals of the column in order of
--   appearance, and last any other value. For each head the rows that fit it are taken, with its parts as
--   new first columns, and the first head for which something is missing gives it, put back together.
use Rattle.std.specs.Prelude.{ℕ, zero, suc, ◌+◌, ℤ, Bool, true, false, ◌&&◌, List, [], ◌∷◌, ◌++◌, Option, Some, None, if◌then◌else◌, eqb, map, length, take, drop, option_map}
use Rattle.std.specs.Ordering.{int_eq}
use Rattle.campl_tree.specs.Plain.SeqType.{SeqType, SeqTypes, Int, Char, Named}
use Rattle.campl_tree.specs.Plain.SeqType as s
use Rattle.campl_tree.specs.Plain.Decl.{DataDecl, DataConstructor}
use Rattle.campl_types.specs.Names.{Name, same_name}
use Rattle.campl_types.specs.Substitution as types
use Rattle.campl_types.specs.Forms.{Form, Forms, Anything, Variable, Number, Character, Truth, Nil, Cons, Pair, Built, none, more, forms_of, list_of, anythings}
use Rattle.campl_types.specs.Matching.{same_truth}
use Rattle.campl_types.specs.Values.{parts_at}
use Rattle.campl_types.specs.World.{World, data_named}

abbrev pub Row : Type 0
Row = List Form

-- a row has a pattern for each type
abbrev pub AsLong : Row → List SeqType → Type 0
AsLong [] [] = Unit {0}
AsLong (p ∷ ps) (t ∷ ts) = AsLong ps ts
AsLong [] (t ∷ ts) = ⊥
AsLong (p ∷ ps) [] = ⊥

abbrev pub AllAsLong : List Row → List SeqType → Type 0
AllAsLong [] ts = Unit {0}
AllAsLong (r ∷ rows) ts = AsLong r ts × AllAsLong rows ts

-- Heads

-- what a value begins with, with the types of its parts
pub data Head : Type 0 where
  IsNumber : ℤ → Head
  IsCharacter : ℕ → Head
  IsTruth : Bool → Head
  IsNil : Head
  IsCons : SeqType → Head
  IsPair : SeqType → SeqType → Head
  IsBuilt : Name → List SeqType → Head
  -- what no pattern of the column names
  IsOther : Head

abbrev pub parts_of : Head → List SeqType
parts_of (IsNumber n) = []
parts_of (IsCharacter c) = []
parts_of (IsTruth b) = []
parts_of IsNil = []
parts_of (IsCons t) = t ∷ s.List t ∷ []
parts_of (IsPair t u) = t ∷ u ∷ []
parts_of (IsBuilt k ts) = ts
parts_of IsOther = []

abbrev literal : Form → List Head
literal (Number n) = IsNumber n ∷ []
literal (Character c) = IsCharacter c ∷ []
literal _ = []

abbrev pub literals : List Form → List Head
literals [] = []
literals (p ∷ ps) = literal p ++ literals ps

abbrev pub built_heads : Option DataDecl → List SeqType → List Head
built_heads None ts = []
built_heads (Some d) ts = map (λ (k : DataConstructor). IsBuilt k.name.name (parts_at d ts k)) d.constructors

-- the heads that are tried for a column of this type, in order
abbrev pub heads : World → SeqType → List Form → List Head
heads w Int column = literals column ++ IsOther ∷ []
heads w Char column = literals column ++ IsOther ∷ []
heads w s.Bool column = IsTruth true ∷ IsTruth false ∷ []
heads w (s.List t) column = IsNil ∷ IsCons t ∷ []
heads w (s.Pair t u) column = IsPair t u ∷ []
heads w (Named at x ts) column = built_heads (data_named w x) (types.list_of ts)
heads w (s.Variable at x) column = IsOther ∷ []

-- Rows that fit a head

abbrev pub where_so : Bool → List Form → Option (List Form)
where_so b ps = if b then Some ps else None

-- the patterns of the head's parts, where the pattern fits the head
abbrev pub opened : Head → Form → Option (List Form)
opened h Anything = Some (anythings (length (parts_of h)))
opened h (Variable x) = Some (anythings (length (parts_of h)))
opened (IsNumber m) (Number n) = where_so (int_eq m n) []
opened (IsCharacter c) (Character d) = where_so (eqb c d) []
opened (IsTruth b) (Truth c) = where_so (same_truth b c) []
opened IsNil Nil = Some []
opened (IsCons t) (Cons p q) = Some (p ∷ q ∷ [])
opened (IsPair t u) (Pair p q) = Some (p ∷ q ∷ [])
opened (IsBuilt k ts) (Built x ps) = where_so (same_name k x && eqb (length ts) (length (list_of ps))) (list_of ps)
opened _ _ = None

abbrev pub opened_row : Head → Row → Option Row
opened_row h [] = None
opened_row h (p ∷ ps) = option_map (λ (parts : List Form). parts ++ ps) (opened h p)

abbrev pub and_then : Option Row → List Row → List Row
and_then None rows = rows
and_then (Some r) rows = r ∷ rows

abbrev pub opened_rows : Head → List Row → List Row
opened_rows h [] = []
opened_rows h (r ∷ rows) = and_then (opened_row h r) (opened_rows h rows)

-- a head before its parts, which are the first of the patterns
abbrev on_two : (Form → Form → Form) → List Form → List Form
on_two f [] = []
on_two f (a ∷ []) = a ∷ []
on_two f (a ∷ b ∷ rest) = f a b ∷ rest

abbrev pub put_back : Head → List Form → List Form
put_back (IsNumber n) ps = Number n ∷ ps
put_back (IsCharacter c) ps = Character c ∷ ps
put_back (IsTruth b) ps = Truth b ∷ ps
put_back IsNil ps = Nil ∷ ps
put_back (IsCons t) ps = on_two Cons ps
put_back (IsPair t u) ps = on_two Pair ps
put_back (IsBuilt k ts) ps = Built k (forms_of (take (length ts) ps)) ∷ drop (length ts) ps
put_back IsOther ps = Anything ∷ ps

-- Columns

abbrev pub is_open : Form → Bool
is_open Anything = true
is_open (Variable x) = true
is_open _ = false

abbrev pub all_open : List Form → Bool
all_open [] = true
all_open (p ∷ ps) = is_open p && all_open ps

abbrev pub first_of : Row → List Form
first_of [] = []
first_of (p ∷ ps) = p ∷ []

-- the first patterns of the rows
abbrev pub column : List Row → List Form
column [] = []
column (r ∷ rows) = first_of r ++ column rows

-- the first head for which something is missing, with what is missing behind it
abbrev pub or_try : Option (List Form) → Option (List Form) → Option (List Form)
or_try (Some ps) later = Some ps
or_try None later = later

abbrev pub first_missing : (Head → Option (List Form)) → List Head → Option (List Form)
first_missing try [] = None
first_missing try (h ∷ hs) = or_try (option_map (put_back h) (try h)) (first_missing try hs)

-- where there are no columns left, a row covers what there is
abbrev pub no_columns : List Row → Option (List Form)
no_columns [] = Some []
no_columns (r ∷ rows) = None

-- what is missing, where `deeper` tells it for the rows that fit a head
abbrev pub missing_by : World → (List Row → List SeqType → Option (List Form)) → List Row → List SeqType → Option (List Form)
missing_by w deeper rows [] = no_columns rows
missing_by w deeper [] (t ∷ ts) = Some (anythings (length (t ∷ ts)))
missing_by w deeper (r ∷ rows) (t ∷ ts) =
    if all_open (column (r ∷ rows))
    then option_map (λ (ps : List Form). Anything ∷ ps) (missing_by w deeper (opened_rows IsOther (r ∷ rows)) ts)
    else first_missing (λ h. deeper (opened_rows h (r ∷ rows)) (parts_of h ++ ts)) (heads w t (column (r ∷ rows)))

-- with heads tried inside heads at most so deep
abbrev pub missing_within : ℕ → World → List Row → List SeqType → Option (List Form)
missing_within zero w = missing_by w (λ rows ts. Some (anythings (length ts)))
missing_within (suc n) w = missing_by w (missing_within n w)

-- how many patterns there are besides variables and `_`: each head that is tried leaves fewer of them, so
-- heads are tried inside heads no deeper, and `missing` is `missing_by` of itself (proofs/MissingUnfolds)
abbrev mutual
  pub weight : Form → ℕ
  weight Anything = 0
  weight (Variable x) = 0
  weight (Number n) = 1
  weight (Character c) = 1
  weight (Truth b) = 1
  weight Nil = 1
  weight (Cons p q) = 1 + weight p + weight q
  weight (Pair p q) = 1 + weight p + weight q
  weight (Built k ps) = 1 + weights ps

  pub weights : Forms → ℕ
  weights none = 0
  weights (more p ps) = weight p + weights ps

abbrev pub row_weight : Row → ℕ
row_weight [] = 0
row_weight (p ∷ ps) = weight p + row_weight ps

abbrev pub rows_weight : List Row → ℕ
rows_weight [] = 0
rows_weight (r ∷ rows) = row_weight r + rows_weight rows

abbrev pub missing : World → List Row → List SeqType → Option (List Form)
missing w rows ts = missing_within (rows_weight rows) w rows ts
