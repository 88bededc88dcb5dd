-- Functions judged in source order. Of each row of a function the value is judged behind the patterns, before
-- the next row is.
use Rattle.std.specs.Prelude.{List, [], ◌∷◌, map}
use Rattle.campl_tree.specs.Plain.Decl.{FunctionDecl, FunctionRow, Decl, Data, Protocol, Coprotocol, Function, Process}
use Rattle.campl_types.specs.World.{World}
use Rattle.campl_seqcheck.specs.declared.fault.SeqFault.{SeqFault}
use Rattle.campl_seqcheck.specs.Judged.{Judged, Is, Fine, fine, and_then}
use Rattle.campl_seqcheck.specs.RowPatterns.{MatchRow, judge_match}
use Rattle.campl_seqcheck.specs.Judging.{checked}

-- behind a row's patterns, its value is of the result's type
abbrev pub function_match : World → FunctionDecl → FunctionRow → MatchRow
function_match w f r = record { place = r.place; patterns = r.patterns; behind = λ xs. checked w xs r.value f.result }

abbrev pub function_matches : World → FunctionDecl → List FunctionRow → List MatchRow
function_matches w f = map (function_match w f)

abbrev pub judge_function : World → FunctionDecl → Judged SeqFault Fine
judge_function w f = judge_match f.place w f.parameters (function_matches w f f.rows)

abbrev pub judge_decl : World → Decl → Judged SeqFault Fine
judge_decl w (Function f) = judge_function w f
judge_decl w (Data d) = Is fine
judge_decl w (Protocol d) = Is fine
judge_decl w (Coprotocol d) = Is fine
judge_decl w (Process d) = Is fine

-- the functions among declarations
abbrev pub judge_functions : World → List Decl → Judged SeqFault Fine
judge_functions w [] = Is fine
judge_functions w (d ∷ ds) = and_then (judge_decl w d) (λ _. judge_functions w ds)
