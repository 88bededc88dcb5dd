use Rattle.std.proofs.Common.{◌∙◌, ap, map}
use Rattle.campl_tree.specs.View.{view_function, view_decl}
use Rattle.campl_seqcheck.specs.Judged.{fine, and_then}
use Rattle.campl_seqcheck.specs.RowPatterns.{exhaustive}
use Rattle.campl_seqcheck.proofs.Answered.{follows}
use Rattle.campl_seqcheck.proofs.RowsJudged.{function_forms, function-so}
use Rattle.campl_seqcheck.proofs.functions.check_function.Goals as goal

pub returns-in-Ok : goal.returns-in-Ok
returns-in-Ok c =
    let w = map view_decl c.args.world.now in
    let f = view_function c.args.f.now in
    let forms = function_forms c.args.f.now.rows in
    follows (λ _. fine) _ _ _ (function-so f.place w f c.args.f.now.rows ∙ ap (λ h. and_then h (λ _. exhaustive f.place w forms f.parameters)) (rw c.as_slice-rows.ensures at c.in-Ok.ensures))
    (rw (c.as_slice-rows.ensures, c.as_slice-types.ensures) at c.rows_are_exhaustive.ensures)
