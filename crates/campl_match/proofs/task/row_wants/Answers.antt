use Rattle.campl_match.specs.View.{view_open}
use Rattle.campl_match.proofs.Trees.{wants-none, wants-some}
use Rattle.campl_match.proofs.task.row_wants.Goals as goal

pub returns-in-None : goal.returns-in-None
returns-in-None c = wants-none (view_open c.args.row.now) c.args.row.now.tests c.in-None.ensures.value

pub returns-in-Some : goal.returns-in-Some
returns-in-Some c = wants-some (view_open c.args.row.now) c.args.row.now.tests c.in-Some.asked.now c.in-Some.ensures.value
