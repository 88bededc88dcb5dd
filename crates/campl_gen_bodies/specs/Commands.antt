-- The last commands of bodies in the steps in which they are emitted. A place that isn't known yet is written when it is.
use Rattle.std.specs.Prelude.{ℕ, suc, not, max, List, [], ◌∷◌, ◌++◌, Option, Some, None, if◌then◌else◌, length, slice_set}
use Rattle.campl_tree.specs.declared.place.Ident.{Ident}
use Rattle.campl_tree.specs.Plain.Expr.{Expr, Exprs}
use Rattle.campl_tree.specs.Plain.Pattern.{Pattern}
use Rattle.campl_tree.specs.Plain.Process.{Body, CaseRows}
use Rattle.campl_types.specs.Free.{is_free}
use Rattle.campl_types.specs.Linear.{body_rows}
use Rattle.campl_types.specs.Matching.{number_of, is_number}
use Rattle.campl_types.specs.Names.{Name}
use Rattle.campl_types.specs.World.{World}
use Rattle.campl_peel.specs.Terms.{those}
use Rattle.campl_code.specs.Compiled.{decision_for}
use Rattle.campl_code.specs.Generated.{or_zero}
use Rattle.campl_code.specs.Instructions as i
use Rattle.campl_code_bodies.specs.Bodies.{Channels, without}
use Rattle.campl_code_bodies.specs.BodyCode.{number, all_numbers, process_number, listed}
use Rattle.campl_gen_exprs.specs.Emission.{counted, appended}
use Rattle.campl_gen_bodies.specs.Making.{Making, pushed, patched, valued, all_valued, entered, kept, built}

-- Commands without bodies

abbrev pub halted : Option Ident → Channels → Making → Making
halted None cs s = pushed (i.Halt None ∷ []) s
halted (Some x) cs s = pushed (i.Halt (Some (number x.name cs)) ∷ []) s

abbrev pub called : World → Name → Exprs → (inputs outputs : List Ident) → Channels → Making → Making
called w x args inputs outputs cs s =
    pushed (i.Go (or_zero (process_number w x)) (all_numbers inputs cs ++ all_numbers outputs cs) ∷ []) (all_valued w args s)

-- Rows: the bodies one behind another, and where they begin

abbrev pub rows_built : {R : Type 0} → World → List (R × Body) → (next : ℕ) → Channels → Making → Making
rows_built w [] next cs s = s
rows_built w (r ∷ rows) next cs s = rows_built w rows next cs (built w r.1 next cs s)

abbrev pub row_starts : {R : Type 0} → World → List (R × Body) → (next : ℕ) → Channels → Making → List ℕ
row_starts w [] next cs s = []
row_starts w (r ∷ rows) next cs s = length s.emission.code ∷ row_starts w rows next cs (built w r.1 next cs s)

-- the numbers of the rows' constructors
abbrev pub row_numbers : World → List (Ident × Body) → List (Option ℕ)
row_numbers w [] = []
row_numbers w (r ∷ rows) = number_of w r.0.name ∷ row_numbers w rows

-- the place of the first row with this number
abbrev pub start_at : List (Option ℕ) → List ℕ → ℕ → ℕ
start_at [] starts n = 0
start_at (k ∷ ks) [] n = 0
start_at (k ∷ ks) (p ∷ starts) n = if is_number k n then p else start_at ks starts n

-- one more than the greatest number
abbrev pub count_numbers : List (Option ℕ) → ℕ
count_numbers [] = 0
count_numbers (k ∷ ks) = max (suc (or_zero k)) (count_numbers ks)

-- a place for each constructor
abbrev pub offer_places : List (Option ℕ) → List ℕ → List ℕ
offer_places ks starts = listed (start_at ks starts) 0 (count_numbers ks)

-- the place of a number is written, where there is one
abbrev pub placed : Option ℕ → (start : ℕ) → List ℕ → List ℕ
placed None start places = places
placed (Some n) start places = slice_set places n start

-- that of a row, where there is one
abbrev pub placed_row : Option (Option ℕ) → Option ℕ → List ℕ → List ℕ
placed_row (Some k) (Some start) places = placed k start places
placed_row (Some k) None places = places
placed_row None start places = places

abbrev pub no_places : ℕ → ℕ
no_places n = 0

abbrev pub hcase_built : World → Ident → List (Ident × Body) → (next : ℕ) → Channels → Making → Making
hcase_built w x rows next cs s =
    let t = pushed (i.Nil ∷ []) s in
    patched (length s.emission.code) (i.Offer (number x.name cs) (offer_places (row_numbers w rows) (row_starts w rows next cs t))) (rows_built w rows next cs t)

abbrev pub race_built : World → List (Ident × Body) → (next : ℕ) → Channels → Making → Making
race_built w rows next cs s =
    let t = pushed (i.Nil ∷ []) s in patched (length s.emission.code) (i.Race (row_starts w rows next cs t)) (rows_built w rows next cs t)

-- `case`: a row's body, under the variables of its pattern

abbrev pub case_row_built : World → Pattern × Body → (next : ℕ) → Channels → Making → Making
case_row_built w r next cs s = kept s (built w r.1 next cs (entered r.0 s))

abbrev pub cases_built : World → List (Pattern × Body) → (next : ℕ) → Channels → Making → Making
cases_built w [] next cs s = s
cases_built w (r ∷ rows) next cs s = cases_built w rows next cs (case_row_built w r next cs s)

abbrev pub case_starts : World → List (Pattern × Body) → (next : ℕ) → Channels → Making → List ℕ
case_starts w [] next cs s = []
case_starts w (r ∷ rows) next cs s = length s.emission.code ∷ case_starts w rows next cs (case_row_built w r next cs s)

-- the decision of rows, and a place for the instruction that names it
abbrev pub decision_put : World → CaseRows → Making → Making
decision_put w rows s = record { emission = counted (appended (i.Nil ∷ []) s.emission); decisions = s.decisions ++ decision_for w 1 (body_rows rows) ∷ [] }

-- behind the value, the decision and the rows
abbrev pub case_closed : World → List (Pattern × Body) → (at decision : ℕ) → (next : ℕ) → Channels → Making → Making
case_closed w rows at decision next cs s =
    patched at (i.Case decision s.emission.free (case_starts w rows next cs s)) (cases_built w rows next cs s)

abbrev pub case_built : World → Expr → CaseRows → List (Pattern × Body) → (next : ℕ) → Channels → Making → Making
case_built w a all rows next cs s =
    let t = valued w a s in case_closed w rows (length t.emission.code) t.emission.decisions next cs (decision_put w all t)

-- `fork`: the process goes on with the first body, and the child begins at the second

-- what the first body holds, and the second
abbrev pub first_held : (x : Ident) → Ident × Body → (next : ℕ) → Channels → Channels
first_held x left next cs = (left.0.name, next) ∷ those (λ c. is_free c left.1) (without x.name cs)

abbrev pub second_held : (x : Ident) → (left right : Ident × Body) → (next : ℕ) → Channels → Channels
second_held x left right next cs = (right.0.name, suc next) ∷ those (λ c. not (is_free c left.1)) (without x.name cs)

abbrev pub fork_built : World → Ident → (left right : Ident × Body) → (next : ℕ) → Channels → Making → Making
fork_built w x left right next cs s =
    let t = built w left.1 (suc (suc next)) (first_held x left next cs) (pushed (i.Nil ∷ []) s) in
    patched (length s.emission.code) (i.Fork (number x.name cs) next (suc next) (length t.emission.code))
    (built w right.1 (suc (suc next)) (second_held x left right next cs) t)
