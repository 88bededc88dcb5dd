use Rattle.std.proofs.Common.{◌∙◌}
use Rattle.campl_match.proofs.Trees.{first-wants}
use Rattle.campl_match.proofs.task.first_wants.Goals as goal

pub returns-in-Some : goal.returns-in-Some
returns-in-Some c = c.row_wants.ensures ∙ first-wants c.args.rows.now c.in-Some.row.now c.in-Some.ensures.value
