-- Rows of patterns judged for the types of what they match, in order: of each row the number of its
-- patterns, then the patterns, then what stands behind them, under the variables that they bind. Whether the
-- rows are exhaustive is judged last. So the rows of functions and of `case` are judged, in expressions and in processes.
use Rattle.std.specs.Prelude.{List, [], ◌∷◌, Option, Some, None, length, map}
use Rattle.campl_tree.specs.declared.place.Place.{Place}
use Rattle.campl_tree.specs.Plain.SeqType.{SeqType}
use Rattle.campl_tree.specs.Plain.Pattern.{Patterns}
use Rattle.campl_types.specs.Fits.{Vars}
use Rattle.campl_types.specs.Forms.{Form, part_forms, list_of}
use Rattle.campl_types.specs.Missing.{Row, missing}
use Rattle.campl_types.specs.World.{World}
use Rattle.campl_missing.specs.Texts.{forms_text}
use Rattle.campl_seqcheck.specs.declared.fault.SeqFault.{SeqFault}
use Rattle.campl_seqcheck.specs.declared.fault.SeqFault.TheVariants.{NotExhaustive}
use Rattle.campl_seqcheck.specs.Judged.{Judged, Is, Fails, Fine, fine, and_then}
use Rattle.campl_seqcheck.specs.Fitting.{counted, number_of, fit_all}

-- a row, and what is judged behind its patterns
pub record MatchRow : Type 0 where
  pub place : Place
  pub patterns : Patterns
  pub behind : Vars → Judged SeqFault Fine

-- patterns with nothing to judge behind them
abbrev pub bare_row : Place → Patterns → MatchRow
bare_row at ps = record { place = at; patterns = ps; behind = λ xs. Is fine }

-- the variables of a row's patterns, one for each type
abbrev pub row_fits : World → List SeqType → Place → Patterns → Judged SeqFault Vars
row_fits w ts at ps = and_then (counted at (number_of ps) (length ts)) (λ _. fit_all w [] ps ts)

abbrev pub judge_row : World → List SeqType → MatchRow → Judged SeqFault Fine
judge_row w ts r = and_then (row_fits w ts r.place r.patterns) r.behind

abbrev pub judge_each_row : World → List SeqType → List MatchRow → Judged SeqFault Fine
judge_each_row w ts [] = Is fine
judge_each_row w ts (r ∷ rows) = and_then (judge_row w ts r) (λ _. judge_each_row w ts rows)

abbrev pub covered : Place → Option (List Form) → Judged SeqFault Fine
covered at None = Is fine
covered at (Some ps) = Fails (NotExhaustive at (forms_text ps))

-- no list of values of the types is missing
abbrev pub exhaustive : Place → World → List Row → List SeqType → Judged SeqFault Fine
exhaustive at w rows ts = covered at (missing w rows ts)

-- what the patterns of rows ask of values
abbrev pub match_forms : List MatchRow → List Row
match_forms = map (λ (r : MatchRow). list_of (part_forms r.patterns))

-- the rows of a match, which stands at the place
abbrev pub judge_match : Place → World → List SeqType → List MatchRow → Judged SeqFault Fine
judge_match at w ts rows = and_then (judge_each_row w ts rows) (λ _. exhaustive at w (match_forms rows) ts)
