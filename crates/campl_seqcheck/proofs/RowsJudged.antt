-- Rows judged: what their patterns ask of values, and where a loop stands in them.
use Rattle.std.proofs.Common.{◌≡◌, ◌∙◌, refl, sym, ap, ℕ, ◌+◌, ◌<◌, ◌≤◌, Some, List, [], ◌∷◌, ◌++◌, map, take, drop, length, get_or}
use Rattle.std.proofs.lemmas.List.{drop_all, take_more, map-append, length-map}
use Rattle.campl_tree.specs.declared.decl.FunctionDecl.{FunctionDecl}
use Rattle.campl_tree.specs.declared.decl.FunctionRow.{FunctionRow}
use Rattle.campl_tree.specs.declared.expr.ExprRow.{ExprRow}
use Rattle.campl_tree.specs.declared.pattern.Pattern.{Pattern}
use Rattle.campl_tree.specs.declared.place.Place.{Place}
use Rattle.campl_tree.specs.declared.types.SeqType as seq
use Rattle.campl_tree.specs.Plain.Decl as d
use Rattle.campl_tree.specs.Plain.Expr.{Expr}
use Rattle.campl_tree.specs.Plain.Pattern as p
use Rattle.campl_tree.specs.Plain.Pattern.{Patterns, pattern_then, no_patterns}
use Rattle.campl_tree.specs.Plain.SeqType.{SeqType}
use Rattle.campl_tree.specs.View.{view_seq, view_pattern, patterns, view_expr, view_expr_row, expr_rows, view_function, view_function_row}
use Rattle.campl_tree.proofs.Views.{view_expr_row-out, view_case_row-out}
use Rattle.campl_types.specs.Fits.{Vars}
use Rattle.campl_types.specs.Forms.{Form, form_of, part_forms, list_of}
use Rattle.campl_types.specs.World.{World}
use Rattle.campl_missing.specs.View.{view_forms, view_rows}
use Rattle.campl_missing.specs.declared.form.Form as code
use Rattle.campl_seqcheck.specs.declared.fault.SeqFault.{SeqFault}
use Rattle.campl_seqcheck.specs.Judged.{Judged, Is, Fails, Fine, fine, and_then}
use Rattle.campl_seqcheck.specs.Fitting.{counted, fit_all}
use Rattle.campl_seqcheck.specs.RowPatterns.{MatchRow, bare_row, row_fits, judge_row, judge_each_row, exhaustive, match_forms, judge_match}
use Rattle.campl_seqcheck.specs.Judging.{checked, case_rows}
use Rattle.campl_seqcheck.specs.Functions.{function_match, function_matches}
use Rattle.campl_seqcheck.specs.Steps.{judged, fitted_all, fitted_row}
use Rattle.campl_seqcheck.proofs.Answered.{drop-at}
use Rattle.campl_seqcheck.proofs.Nodes.{number-seen}

-- Patterns

pub row-so : (w : World) (types : List seq.SeqType) (at : Place) (ps : List Pattern)
    → fitted_row w (map view_seq types) at (patterns (map view_pattern ps))
    ≡ and_then (counted at (length ps) (length types)) (λ _. fitted_all w [] (patterns (map view_pattern ps)) (map view_seq types))
unfolding fitted_row fitted_all
row-so w types at ps =
    ap (λ n. row_of n (length (map view_seq types))) (number-seen ps) ∙ ap (row_of (length ps)) (length-map types view_seq)
  where
    row_of : ℕ → ℕ → Judged SeqFault Vars
    row_of n m = and_then (counted at n m) (λ _. fit_all w [] (patterns (map view_pattern ps)) (map view_seq types))

-- what they ask of values
asked : (qs : List p.Pattern) → list_of (part_forms (patterns qs)) ≡ map form_of qs
asked [] = refl
asked (q ∷ qs) = ap (λ fs. form_of q ∷ fs) (asked qs)

pub asked-so : (ps : List Pattern) (qs : Patterns) (fs : List Form) → patterns (map view_pattern ps) ≡ qs → fs ≡ map form_of (map view_pattern ps) → fs ≡ list_of (part_forms qs)
asked-so ps qs fs i j = j ∙ sym (asked (map view_pattern ps)) ∙ ap (λ rs. list_of (part_forms rs)) i

-- Rows with nothing behind their patterns

module _ {R : Type 0} (patterns_of : R → Patterns) where
  abbrev forms : List R → List (List Form)
  forms = map (λ r. list_of (part_forms (patterns_of r)))

  pub forms-more : (rows : List R) (i : ℕ) (r : R) (found new : List (List code.Form)) (form : List code.Form) → i < length rows → r ≡ get_or rows i r
      → view_rows found ≡ forms (take i rows) → view_forms form ≡ list_of (part_forms (patterns_of r)) → new ≡ found ++ form ∷ []
      → view_rows new ≡ forms (take (i + 1) rows)
  forms-more rows i r found new form l is inv one e =
      rw (e, map-append view_forms found (form ∷ []), inv, one, take_more rows i r l, ← is, map-append (λ q. list_of (part_forms (patterns_of q))) (take i rows) (r ∷ [])) refl

module _ {R : Type 0} (patterns_of : R → Patterns) (at : Place) where
  abbrev bare : List R → List MatchRow
  bare = map (λ r. bare_row at (patterns_of r))

  bare-forms : (rows : List R) → match_forms (bare rows) ≡ forms patterns_of rows
  bare-forms [] = refl
  bare-forms (r ∷ rows) = ap (λ fs. list_of (part_forms (patterns_of r)) ∷ fs) (bare-forms rows)

  pub match-so : (w : World) (ts : List SeqType) (rows : List R) → judge_match at w ts (bare rows) ≡ and_then (judge_each_row w ts (bare rows)) (λ _. exhaustive at w (forms patterns_of rows) ts)
  match-so w ts rows = ap (λ fs. and_then (judge_each_row w ts (bare rows)) (λ _. exhaustive at w fs ts)) (bare-forms rows)

  pub row-at : (w : World) (ts : List SeqType) (rows : List R) (i : ℕ) (r : R) → i < length rows → r ≡ get_or rows i r
      → judge_each_row w ts (bare (drop i rows)) ≡ and_then (fitted_row w ts at (patterns_of r)) (λ _. judge_each_row w ts (bare (drop (i + 1) rows)))
  unfolding fitted_row
  row-at w ts rows i r l is =
      ap (λ rs. judge_each_row w ts (bare rs)) (drop-at rows i r l is)
      ∙ nothing-behind (row_fits w ts at (patterns_of r)) (judge_each_row w ts (bare (drop (i + 1) rows)))
    where
      nothing-behind : (j : Judged SeqFault Vars) (rest : Judged SeqFault Fine) → and_then (and_then j (λ xs. Is fine)) (λ _. rest) ≡ and_then j (λ _. rest)
      nothing-behind (Is x) rest = refl
      nothing-behind (Fails fault) rest = refl

  pub row-end : (w : World) (ts : List SeqType) (rows : List R) (i : ℕ) → length rows ≤ i → judge_each_row w ts (bare (drop i rows)) ≡ Is fine
  row-end w ts rows i l = ap (λ rs. judge_each_row w ts (bare rs)) (drop_all i rows l)

-- Rows of `case`

pub cases-are : (at : Place) (rows : List ExprRow) → map (λ r. bare_row at (pattern_then (view_expr_row r).0 no_patterns)) rows ≡ case_rows at (expr_rows (map view_expr_row rows))
cases-are at [] = refl
cases-are at (r ∷ rows) = ap (λ rs. bare_row at (pattern_then (view_expr_row r).0 no_patterns) ∷ rs) (cases-are at rows)

-- Rows of functions

abbrev pub function_forms : List FunctionRow → List (List Form)
function_forms = map (λ r. list_of (part_forms (patterns (map view_pattern r.patterns))))

function-forms : (w : World) (f : d.FunctionDecl) (rows : List FunctionRow) → match_forms (function_matches w f (map view_function_row rows)) ≡ function_forms rows
function-forms w f [] = refl
function-forms w f (r ∷ rows) = ap (λ fs. list_of (part_forms (patterns (map view_pattern r.patterns))) ∷ fs) (function-forms w f rows)

pub function-so : (at : Place) (w : World) (f : d.FunctionDecl) (rows : List FunctionRow)
    → judge_match at w f.parameters (function_matches w f (map view_function_row rows))
    ≡ and_then (judge_each_row w f.parameters (function_matches w f (map view_function_row rows))) (λ _. exhaustive at w (function_forms rows) f.parameters)
function-so at w f rows =
    ap (λ fs. and_then (judge_each_row w f.parameters (function_matches w f (map view_function_row rows))) (λ _. exhaustive at w fs f.parameters)) (function-forms w f rows)

pub function-row-so : (w : World) (f : FunctionDecl) (r : FunctionRow)
    → judge_row w (map view_seq f.parameters) (function_match w (view_function f) (view_function_row r))
    ≡ and_then (fitted_row w (map view_seq f.parameters) r.place (patterns (map view_pattern r.patterns))) (λ xs. and_then (judged w xs (view_expr r.value) (Some (view_seq f.result))) (λ _. Is fine))
unfolding judged fitted_row
function-row-so w f r = refl

-- Expressions

pub checked-so : (w : World) (vs : Vars) (a : Expr) (t : SeqType) → checked w vs a t ≡ and_then (judged w vs a (Some t)) (λ _. Is fine)
unfolding judged
checked-so w vs a t = refl

pub ruleset row_views = (view_expr_row-out, view_case_row-out)

pub ruleset one_row = (row-so)

pub ruleset function_row = (function-row-so)
