use Rattle.std.proofs.Common.{◌∙◌, ap, map}
use Rattle.campl_tree.specs.View.{view_seq, view_decl}
use Rattle.campl_types.specs.Forms.{part_forms, list_of}
use Rattle.campl_seqcheck.specs.Judged.{fine, and_then}
use Rattle.campl_seqcheck.specs.RowPatterns.{exhaustive}
use Rattle.campl_seqcheck.proofs.Answered.{follows}
use Rattle.campl_seqcheck.proofs.RowsJudged.{match-so}
use Rattle.campl_seqcheck.proofs.rows.check_match.Goals as goal

pub returns-in-Ok : goal.returns-in-Ok
returns-in-Ok g c =
    let w = map view_decl c.args.world.now in
    let ts = map view_seq c.args.types.now in
    let forms = map (λ r. list_of (part_forms (g.R.Row.patterns r))) c.args.rows.now in
    follows (λ _. fine) _ _ _ (match-so g.R.Row.patterns c.args.at w ts c.args.rows.now ∙ ap (λ h. and_then h (λ _. exhaustive c.args.at w forms ts)) c.in-Ok.ensures) c.rows_are_exhaustive.ensures
