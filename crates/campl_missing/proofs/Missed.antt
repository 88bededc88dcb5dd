-- What is missing, by its rules.
use Rattle.std.proofs.Common.{◌≡◌, refl, sym, ap, ◌∙◌, Bool, true, false, List, [], ◌∷◌, ◌++◌, Option, Some, None, if◌then◌else◌, length, option_map, map, ◌<◌, IfOk, Result, Ok, Err, arith}
use Rattle.campl_tree.specs.Plain.SeqType.{SeqType}
use Rattle.campl_tree.specs.View.{view_seq}
use Rattle.campl_tree.specs.declared.types.SeqType as types
use Rattle.campl_types.specs.Forms.{Form, Anything, anythings}
use Rattle.campl_types.specs.Missing.{Row, Head, IsOther, parts_of, heads, opened_rows, all_open, column, no_columns, first_missing, missing}
use Rattle.campl_types.specs.World.{World}
use Rattle.campl_types.proofs.MissingUnfolds.{missing-unfolds}
use Rattle.campl_missing.specs.View.{view_forms, view_rows}
use Rattle.campl_missing.specs.declared.form.Form as declared
use Rattle.campl_missing.specs.declared.form.Form.TheVariants as form
use Rattle.campl_missing.proofs.Views.{view_form-Anything}

if-true : {A : Type 0} → (b : Bool) (x y : A) → b ≡ true → (if b then x else y) ≡ x
if-true true x y i = refl
if-true false x y i = absurd (cc i)

if-false : {A : Type 0} → (b : Bool) (x y : A) → b ≡ false → (if b then x else y) ≡ y
if-false false x y i = refl
if-false true x y i = absurd (cc i)

pub without-types : (w : World) (rows : List Row) → missing w rows [] ≡ no_columns rows
without-types w rows = missing-unfolds w rows []

pub without-rows : (w : World) (ts : List SeqType) → missing w [] ts ≡ Some (anythings (length ts))
without-rows w [] = missing-unfolds w [] []
without-rows w (t ∷ ts) = missing-unfolds w [] (t ∷ ts)

-- where the first column is open
pub with-open : (w : World) (r : Row) (rows : List Row) (t : SeqType) (ts : List SeqType) → all_open (column (r ∷ rows)) ≡ true → missing w (r ∷ rows) (t ∷ ts) ≡ option_map (λ (ps : List Form). Anything ∷ ps) (missing w (opened_rows IsOther (r ∷ rows)) ts)
with-open w r rows t ts i =
    missing-unfolds w (r ∷ rows) (t ∷ ts)
    ∙ if-true (all_open (column (r ∷ rows))) _ _ i
    ∙ ap (option_map (λ (ps : List Form). Anything ∷ ps)) (sym (missing-unfolds w (opened_rows IsOther (r ∷ rows)) ts))

-- and where it isn't
pub with-closed : (w : World) (rows : List Row) (t : SeqType) (ts : List SeqType) → all_open (column rows) ≡ false → missing w rows (t ∷ ts) ≡ first_missing (λ h. missing w (opened_rows h rows) (parts_of h ++ ts)) (heads w t (column rows))
with-closed w [] t ts i = absurd (cc i)
with-closed w (r ∷ rows) t ts i = missing-unfolds w (r ∷ rows) (t ∷ ts) ∙ if-false (all_open (column (r ∷ rows))) _ _ i

-- What the code answers

seen-behind : (found : Option (List declared.Form)) → option_map view_forms (option_map (λ (ps : List declared.Form). form.Anything ∷ ps) found) ≡ option_map (λ (ps : List Form). Anything ∷ ps) (option_map view_forms found)
seen-behind None = refl
seen-behind (Some ps) = ap (λ p. Some (p ∷ view_forms ps)) view_form-Anything

pub open-answered : {E : Type 0} → (answer : Result (Option (List declared.Form)) E) (w : World) (rows : List (List declared.Form)) (first : types.SeqType) (others all : List types.SeqType) (found : Option (List declared.Form)) → all ≡ first ∷ others → 0 < length rows → all_open (column (view_rows rows)) ≡ true → option_map view_forms found ≡ missing w (opened_rows IsOther (view_rows rows)) (map view_seq others) → IfOk answer (λ m. m ≡ option_map (λ (ps : List declared.Form). form.Anything ∷ ps) found) → IfOk answer (λ m. option_map view_forms m ≡ missing w (view_rows rows) (map view_seq all))
open-answered (Err x) w rows first others all found e l o i j = tt
open-answered (Ok m) w [] first others all found e l o i j = absurd (omega (arith, l))
open-answered (Ok m) w (r ∷ rows) first others all found e l o i j =
    ap (option_map view_forms) j
    ∙ seen-behind found
    ∙ ap (option_map (λ (ps : List Form). Anything ∷ ps)) i
    ∙ sym (with-open w (view_forms r) (view_rows rows) (view_seq first) (map view_seq others) o)
    ∙ sym (ap (λ ts. missing w (view_rows (r ∷ rows)) (map view_seq ts)) e)

pub closed-answered : {E : Type 0} → (answer : Result (Option (List declared.Form)) E) (w : World) (rows : List (List declared.Form)) (first : types.SeqType) (others all : List types.SeqType) (tried : List Head) → all ≡ first ∷ others → all_open (column (view_rows rows)) ≡ false → tried ≡ heads w (view_seq first) (column (view_rows rows)) → IfOk answer (λ m. option_map view_forms m ≡ first_missing (λ h. missing w (opened_rows h (view_rows rows)) (parts_of h ++ map view_seq others)) tried) → IfOk answer (λ m. option_map view_forms m ≡ missing w (view_rows rows) (map view_seq all))
closed-answered (Err x) w rows first others all tried e o i j = tt
closed-answered (Ok m) w rows first others all tried e o i j =
    j
    ∙ ap (first_missing (λ h. missing w (opened_rows h (view_rows rows)) (parts_of h ++ map view_seq others))) i
    ∙ sym (with-closed w (view_rows rows) (view_seq first) (map view_seq others) o)
    ∙ sym (ap (λ ts. missing w (view_rows rows) (map view_seq ts)) e)

pub ruleset missed = (without-types, without-rows, with-open, with-closed)
