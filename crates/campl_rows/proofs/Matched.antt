-- The rows of a process's `case` as the rows of a match.
use Rattle.std.proofs.Common.{◌≡◌, ◌∙◌, refl, sym, ap, subst, List, [], ◌∷◌, map}
use Rattle.campl_tree.specs.declared.place.Place.{Place}
use Rattle.campl_tree.specs.declared.process.CaseRow.{CaseRow}
use Rattle.campl_tree.specs.Plain.SeqType.{SeqType}
use Rattle.campl_tree.specs.Plain.Pattern.{pattern_then, no_patterns}
use Rattle.campl_tree.specs.View.{view_case_row, case_rows}
use Rattle.campl_types.specs.Fits.{Vars}
use Rattle.campl_types.specs.Forms.{form_of}
use Rattle.campl_types.specs.Linear.{body_rows}
use Rattle.campl_types.specs.World.{World}
use Rattle.campl_seqcheck.specs.declared.fault.SeqFault.{SeqFault}
use Rattle.campl_seqcheck.specs.Answered.{StopsAt}
use Rattle.campl_seqcheck.specs.Judged.{Fine, fine, Judged, Is, Fails, and_then}
use Rattle.campl_seqcheck.specs.Fitting.{fit}
use Rattle.campl_seqcheck.specs.RowPatterns.{MatchRow, bare_row, judge_each_row, exhaustive, match_forms, judge_match}
use Rattle.campl_linear.specs.Judged.{from_seq}
use Rattle.campl_linear.specs.Rows.{patterns_fit}
use Rattle.campl_held.specs.declared.fault.LinFault.{LinFault as Code}
use Rattle.campl_held.specs.Answered.{Refused, from_fault}
use Rattle.campl_held.proofs.Told as told
use Rattle.campl_rows.specs.Steps.{rows_match}

module _ (w : World) (at : Place) (t : SeqType) where
  abbrev bare : List CaseRow → List MatchRow
  bare = map (λ r. bare_row at (pattern_then (view_case_row r).0 no_patterns))

  one-pattern : (j : Judged SeqFault Vars) (rest : Judged SeqFault Fine) → and_then (and_then (and_then j (λ (ys : Vars). Is ys)) (λ (xs : Vars). Is fine)) (λ (z : Fine). rest) ≡ and_then j (λ _. rest)
  one-pattern (Is xs) rest = refl
  one-pattern (Fails fault) rest = refl

  each-fits : (rows : List CaseRow) → judge_each_row w (t ∷ []) (bare rows) ≡ patterns_fit w (case_rows (map view_case_row rows)) t
  each-fits [] = refl
  each-fits (r ∷ rows) =
      one-pattern (fit w [] (view_case_row r).0 t) (judge_each_row w (t ∷ []) (bare rows))
      ∙ ap (λ (rest : Judged SeqFault Fine). and_then (fit w [] (view_case_row r).0 t) (λ _. rest)) (each-fits rows)

  forms-are : (rows : List CaseRow) → match_forms (bare rows) ≡ body_rows (case_rows (map view_case_row rows))
  forms-are [] = refl
  forms-are (r ∷ rows) = ap (λ forms. (form_of (view_case_row r).0 ∷ []) ∷ forms) (forms-are rows)

  in-seq : (j k : Judged SeqFault Fine) → from_seq (and_then j (λ _. k)) ≡ and_then (from_seq j) (λ _. from_seq k)
  in-seq (Is f) k = refl
  in-seq (Fails fault) k = refl

  pub match-is : (rows : List CaseRow) → from_seq (judge_match at w (t ∷ []) (bare rows)) ≡ rows_match w at t (case_rows (map view_case_row rows))
  match-is rows =
      in-seq (judge_each_row w (t ∷ []) (bare rows)) (exhaustive at w (match_forms (bare rows)) (t ∷ []))
      ∙ ap (λ (j : Judged SeqFault Fine). and_then (from_seq j) (λ _. from_seq (exhaustive at w (match_forms (bare rows)) (t ∷ [])))) (each-fits rows)
      ∙ ap (λ forms. and_then (from_seq (patterns_fit w (case_rows (map view_case_row rows)) t)) (λ _. from_seq (exhaustive at w forms (t ∷ [])))) (forms-are rows)

  pub match-stopped : (rows : List CaseRow) (fault : SeqFault) (refusal : Code) → StopsAt (judge_match at w (t ∷ []) (bare rows)) fault → refusal ≡ from_fault fault
      → Refused (rows_match w at t (case_rows (map view_case_row rows))) refusal
  match-stopped rows fault refusal i j =
      subst (λ r. Refused (rows_match w at t (case_rows (map view_case_row rows))) r) (sym j)
      (subst (λ r. Refused r (from_fault fault)) (match-is rows) (told.from-seq (judge_match at w (t ∷ []) (bare rows)) fault i))

pub ruleset sequential = (told.sequential)
