use Rattle.campl_eval.specs.View.{code_of, seen, seens}
use Rattle.campl_eval.proofs.Acts.{never-entered, entry-can}
use Rattle.campl_eval.proofs.eval.can_enter.Goals as goal

pub returns-in-None : goal.returns-in-None
returns-in-None c = never-entered (code_of c.args.program.now) c.args.g (seen c.args.machine.now.frame) (seens c.args.machine.now.callers) _ (rw c.in-None.is at c.entry.ensures)

pub returns-in-Some : goal.returns-in-Some
returns-in-Some c = entry-can (code_of c.args.program.now) c.args.g (seen c.args.machine.now.frame) (seens c.args.machine.now.callers) _ c.in-Some.parameters _ c.len.result (rw c.in-Some.is at c.entry.ensures) c.len.ensures
