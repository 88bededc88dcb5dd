use Rattle.std.proofs.Common.{◌≡◌, ◌∙◌, ◌++◌, ◌∷◌, [], ℕ, List, OnOk, ap, length, map, subst, sym}
use Rattle.std.proofs.lemmas.List.{length-map}
use Rattle.campl_tree.specs.View.{view_decl, view_seq, view_pattern, patterns, view_function_row}
use Rattle.campl_tree.specs.declared.decl.FunctionRow.{FunctionRow}
use Rattle.campl_types.specs.Forms.{Form, list_of, part_forms}
use Rattle.campl_types.specs.Sequential.{function_rows}
use Rattle.campl_code.specs.Compiled.{decision_for}
use Rattle.campl_instructions.specs.View.{view_decision}
use Rattle.campl_gen_functions.proofs.Decided.{function-forms-are}
use Rattle.campl_gen_functions.proofs.functions.put_function.Goals as goal

pub returns : goal.returns
returns c =
    let w = map view_decl c.args.world.now in
    let old = map view_decision c.args.out.now in
    let rows = c.as_slice.result.now in
    let width : c.len.result ≡ length (map view_seq c.args.f.now.parameters) = c.len.ensures ∙ sym (length-map c.args.f.now.parameters view_seq) in
    let forms : map (λ (r : FunctionRow). list_of (part_forms (patterns (map view_pattern r.patterns)))) rows ≡ function_rows (map view_function_row c.args.f.now.rows) =
    function-forms-are rows ∙ ap (λ (l : List FunctionRow). function_rows (map view_function_row l)) c.as_slice.ensures in
    subst (λ (k : List (List Form)). OnOk c.put_match.result (map view_decision c.put_match.new.out ≡ old ++ decision_for w (length (map view_seq c.args.f.now.parameters)) k ∷ [])) forms
    (subst (λ (n : ℕ). OnOk c.put_match.result (map view_decision c.put_match.new.out ≡ old ++ decision_for w n (map (λ (r : FunctionRow). list_of (part_forms (patterns (map view_pattern r.patterns)))) rows) ∷ [])) width c.put_match.ensures)
