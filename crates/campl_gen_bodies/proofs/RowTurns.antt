-- Rows in turn, and the bodies in them.
use Rattle.std.proofs.Common.{◌≡◌, ◌∙◌, refl, sym, ap, ℕ, ◌+◌, ◌<◌, ◌≤◌, List, [], ◌∷◌, ◌++◌, map, length, drop, get_or}
use Rattle.std.proofs.lemmas.List.{drop_all, drop_more}
use Rattle.campl_tree.specs.declared.process.CaseRow.{CaseRow, out-CaseRow}
use Rattle.campl_tree.specs.Plain.Pattern.{Pattern, pattern_then, no_patterns}
use Rattle.campl_tree.specs.Plain.Process.{Body}
use Rattle.campl_tree.specs.View.{view_body, view_pattern, view_case_row, case_rows}
use Rattle.campl_tree.proofs.Views.{view_hcase_row-out, view_branch-out, view_case_row-out, view_part-out}
use Rattle.campl_types.specs.Forms.{Form, list_of, part_forms}
use Rattle.campl_types.specs.Linear.{body_rows}
use Rattle.campl_types.specs.World.{World}
use Rattle.campl_types.specs.Patterns.{bound_in}
use Rattle.campl_code.specs.Numbers.{Numbers}
use Rattle.campl_code_bodies.specs.Bodies.{Channels}
use Rattle.campl_gen_exprs.specs.Emission.{binding}
use Rattle.campl_gen_exprs.proofs.Bindings.{forgotten}
use Rattle.campl_gen_bodies.specs.Making.{Making, entered, left_at, built}
use Rattle.campl_gen_bodies.specs.Commands.{rows_built, row_starts, case_row_built, cases_built, case_starts}

drop-at : {A : Type 0} (xs : List A) (n : ℕ) (x : A) → n < length xs → x ≡ get_or xs n x → drop n xs ≡ x ∷ drop (n + 1) xs
drop-at xs n x l is = drop_more xs n x l ∙ ap (λ y. y ∷ drop (n + 1) xs) (sym is)

pub ruleset rows = (view_hcase_row-out, view_branch-out, view_part-out)

-- one row more
module _ {Q R : Type 0} (f : Q → R × Body) (w : World) (next : ℕ) (cs : Channels) (s : Making) (rows : List Q) (n : ℕ) where
  pub rows-at : (r : Q) → n < length rows → r ≡ get_or rows n r → rows_built w (map f (drop n rows)) next cs s ≡ rows_built w (map f (drop (n + 1) rows)) next cs (built w (f r).1 next cs s)
  rows-at r l is = ap (λ d. rows_built w (map f d) next cs s) (drop-at rows n r l is)

  pub rows-end : length rows ≤ n → rows_built w (map f (drop n rows)) next cs s ≡ s
  rows-end l = ap (λ d. rows_built w (map f d) next cs s) (drop_all n rows l)

  pub starts-at : (r : Q) → n < length rows → r ≡ get_or rows n r
      → row_starts w (map f (drop n rows)) next cs s ≡ length s.emission.code ∷ row_starts w (map f (drop (n + 1) rows)) next cs (built w (f r).1 next cs s)
  starts-at r l is = ap (λ d. row_starts w (map f d) next cs s) (drop-at rows n r l is)

  pub starts-end : length rows ≤ n → row_starts w (map f (drop n rows)) next cs s ≡ []
  starts-end l = ap (λ d. row_starts w (map f d) next cs s) (drop_all n rows l)

module _ (w : World) (next : ℕ) (cs : Channels) (s : Making) (rows : List CaseRow) (n : ℕ) where
  pub cases-at : (r : CaseRow) → n < length rows → r ≡ get_or rows n r
      → cases_built w (map view_case_row (drop n rows)) next cs s ≡ cases_built w (map view_case_row (drop (n + 1) rows)) next cs (case_row_built w (view_case_row r) next cs s)
  cases-at r l is = ap (λ d. cases_built w (map view_case_row d) next cs s) (drop-at rows n r l is)

  pub cases-end : length rows ≤ n → cases_built w (map view_case_row (drop n rows)) next cs s ≡ s
  cases-end l = ap (λ d. cases_built w (map view_case_row d) next cs s) (drop_all n rows l)

  pub case-starts-at : (r : CaseRow) → n < length rows → r ≡ get_or rows n r
      → case_starts w (map view_case_row (drop n rows)) next cs s ≡ length s.emission.code ∷ case_starts w (map view_case_row (drop (n + 1) rows)) next cs (case_row_built w (view_case_row r) next cs s)
  case-starts-at r l is = ap (λ d. case_starts w (map view_case_row d) next cs s) (drop-at rows n r l is)

  pub case-starts-end : length rows ≤ n → case_starts w (map view_case_row (drop n rows)) next cs s ≡ []
  case-starts-end l = ap (λ d. case_starts w (map view_case_row d) next cs s) (drop_all n rows l)

-- a list that grows in front of the rest
pub grown-by : (old new rest : List ℕ) (x : ℕ) (all : List ℕ) → new ≡ old ++ x ∷ [] → old ++ (x ∷ rest) ≡ all → new ++ rest ≡ all
grown-by old new rest x all is whole = ap (λ l. l ++ rest) is ∙ go old ∙ whole
  where
    go : (xs : List ℕ) → (xs ++ x ∷ []) ++ rest ≡ xs ++ (x ∷ rest)
    go [] = refl
    go (y ∷ xs) = ap (λ l. y ∷ l) (go xs)

-- behind a row of `case` the variables are those of before
pub case-row-left : (w : World) (r : CaseRow) (next : ℕ) (cs : Channels) (s : Making)
    → left_at (length s.emission.numbers) s.emission.free (built w (view_body (out-CaseRow r).body) next cs (entered (view_pattern (out-CaseRow r).pattern) s)) ≡ case_row_built w (view_case_row r) next cs s
unfolding built binding
case-row-left w r next cs s =
    let p = view_pattern (out-CaseRow r).pattern in
    let t = built w (view_body (out-CaseRow r).body) next cs (entered p s) in
    ap (λ (l : Numbers). record { emission = record { code = t.emission.code; decisions = t.emission.decisions; free = s.emission.free; numbers = l }; decisions = t.decisions }) (forgotten s.emission.free (bound_in p) s.emission.numbers)
    ∙ ap (λ (q : Pattern × Body). case_row_built w q next cs s) (sym (view_case_row-out r))

pub ruleset cases = (case-row-left)

-- the patterns of rows as matching sees them
pub forms-are : (rows : List CaseRow) → map (λ (r : CaseRow). list_of (part_forms (pattern_then (view_case_row r).0 no_patterns))) rows ≡ body_rows (case_rows (map view_case_row rows))
forms-are [] = refl
forms-are (r ∷ rows) = ap (λ (l : List (List Form)). list_of (part_forms (pattern_then (view_case_row r).0 no_patterns)) ∷ l) (forms-are rows)
