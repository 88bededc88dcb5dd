-- Rows whose judging has no fault miss no value.
use Rattle.std.proofs.Common.{◌≡◌, refl, ap, subst, List, [], ◌∷◌, Option, Some, None, length, arith}
use Rattle.campl_tree.specs.declared.place.Place.{Place}
use Rattle.campl_tree.specs.Plain.Decl.{Program, FunctionDecl, FunctionRow}
use Rattle.campl_tree.specs.Plain.Expr as e
use Rattle.campl_tree.specs.Plain.Expr.{ExprRows}
use Rattle.campl_tree.specs.Plain.Pattern.{Patterns, no_patterns, pattern_then}
use Rattle.campl_tree.specs.Plain.SeqType.{SeqType}
use Rattle.campl_value.specs.Tree.{Tree}
use Rattle.campl_types.specs.Matching.{SomeRowMatches}
use Rattle.campl_types.specs.Values.{AllAreValues}
use Rattle.campl_types.specs.WellDeclared.{IsWellDeclared}
use Rattle.campl_types.proofs.Missing.{nothing-missing}
use Rattle.campl_types.proofs.DeclaredOnce.{well-declared-constructors}
use Rattle.campl_types.specs.Forms.{Form, form_of, part_forms, list_of}
use Rattle.campl_types.specs.Missing.{Row, missing, AsLong, AllAsLong}
use Rattle.campl_types.specs.Sequential.{expr_rows, function_rows}
use Rattle.campl_types.specs.World.{World, world_of}
use Rattle.campl_seqcheck.specs.Judged.{Is, Fine, fine}
use Rattle.campl_seqcheck.specs.Fitting.{counted, number_of, fit_all}
use Rattle.campl_seqcheck.specs.RowPatterns.{MatchRow, exhaustive, match_forms, row_fits, judge_row, judge_each_row, judge_match}
use Rattle.campl_seqcheck.specs.Judging.{case_rows}
use Rattle.campl_seqcheck.specs.Functions.{function_matches}
use Rattle.campl_seqcheck.proofs.AgreesJudged.{in-turn, counts}

pub exhaustive-is : (at : Place) (w : World) (rows : List Row) (ts : List SeqType) (f : Fine) → exhaustive at w rows ts ≡ Is f → missing w rows ts ≡ None
exhaustive-is at w rows ts f i = go (missing w rows ts) refl
  where
    go : (o : Option (List Form)) → missing w rows ts ≡ o → missing w rows ts ≡ None
    go None e = e
    go (Some ps) e = absurd (cc (rw e at i))

pub case-forms : (at : Place) (rows : ExprRows) → match_forms (case_rows at rows) ≡ expr_rows rows
case-forms at e.no_expr_rows = refl
case-forms at (e.expr_row_then p a rows) = ap (λ fs. (form_of p ∷ []) ∷ fs) (case-forms at rows)

-- the rows of a `case` that is judged to be fine miss no value
pub case-covers : (at : Place) (w : World) (rows : ExprRows) (t : SeqType) (f : Fine) → judge_match at w (t ∷ []) (case_rows at rows) ≡ Is f → missing w (expr_rows rows) (t ∷ []) ≡ None
case-covers at w rows t f i =
    let j = in-turn (judge_each_row w (t ∷ []) (case_rows at rows)) (λ x. exhaustive at w (match_forms (case_rows at rows)) (t ∷ [])) f i in
    subst (λ fs. missing w fs (t ∷ []) ≡ None) (case-forms at rows) (exhaustive-is at w (match_forms (case_rows at rows)) (t ∷ []) f j.2)

-- Functions

pub function-forms : (w : World) (f : FunctionDecl) (rows : List FunctionRow) → match_forms (function_matches w f rows) ≡ function_rows rows
function-forms w f [] = refl
function-forms w f (r ∷ rows) = ap (λ fs. list_of (part_forms r.patterns) ∷ fs) (function-forms w f rows)

-- Each list of values of the types matches a row

long-by : (ps : Patterns) (ts : List SeqType) → number_of ps ≡ length ts → AsLong (list_of (part_forms ps)) ts
long-by no_patterns [] i = tt
long-by no_patterns (t ∷ ts) i = absurd (let none : ⊥ = omega (arith, i) in none)
long-by (pattern_then p ps) [] i = absurd (let none : ⊥ = omega (arith, i) in none)
long-by (pattern_then p ps) (t ∷ ts) i = long-by ps ts (omega (arith, i))

rows-long : (w : World) (ts : List SeqType) (rows : List MatchRow) (f : Fine) → judge_each_row w ts rows ≡ Is f → AllAsLong (match_forms rows) ts
rows-long w ts [] f i = tt
rows-long w ts (r ∷ rows) f i =
    let j = in-turn (judge_row w ts r) (λ y. judge_each_row w ts rows) f i in
    let k = in-turn (row_fits w ts r.place r.patterns) r.behind j.0 j.1 in
    let l = in-turn (counted r.place (number_of r.patterns) (length ts)) (λ y. fit_all w [] r.patterns ts) k.0 k.1 in
    (long-by r.patterns ts (counts r.place (number_of r.patterns) (length ts) l.0 l.1), rows-long w ts rows f j.2)

pub a-row-matches : (source : Program) → IsWellDeclared source → (at : Place) (ts : List SeqType) (rows : List MatchRow) → judge_match at (world_of source) ts rows ≡ Is fine
    → (vs : List Tree) → AllAreValues (world_of source) vs ts → SomeRowMatches (world_of source) (match_forms rows) vs
a-row-matches source i at ts rows j vs values =
    let w = world_of source in
    let k = in-turn (judge_each_row w ts rows) (λ y. exhaustive at w (match_forms rows) ts) fine j in
    let none = exhaustive-is at w (match_forms rows) ts fine k.2 in
    nothing-missing w (well-declared-constructors source i) (match_forms rows) ts vs (rows-long w ts rows k.0 k.1) none values
