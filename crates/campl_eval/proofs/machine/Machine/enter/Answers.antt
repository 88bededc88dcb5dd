use Rattle.std.proofs.Common.{arith, ◌≤◌, length}
use Rattle.campl_eval.specs.View.{code_of, seen, seens}
use Rattle.campl_eval.proofs.Acts.{no-entry, entry-short, entry-enters}
use Rattle.campl_eval.proofs.machine.Machine.enter.Goals as goal

pub returns-in_default : goal.returns-in_default
returns-in_default c = no-entry (code_of c.args.program.now) c.args.g (seen c.args.self.now.frame) (seens c.args.self.now.callers) _ (rw c.in_default.is at c.entry.ensures)

pub returns-then-n-len : goal.returns-then-n-len
returns-then-n-len c = entry-short (code_of c.args.program.now) c.args.g (seen c.args.self.now.frame) (seens c.args.self.now.callers) _ c.in-Some.parameters c.in-Some.size (rw c.in-Some.is at c.entry.ensures) (omega (arith, c.if-n-len.true, c.len.ensures))

pub returns-in-Ok : goal.returns-in-Ok
returns-in-Ok c =
    let h : c.in-Some.parameters ≤ length c.args.self.now.frame.operands = omega (arith, c.if-n-len.false, c.len.ensures) in
    entry-enters (code_of c.args.program.now) c.args.g (seen c.args.self.now.frame) (seens c.args.self.now.callers) _ c.in-Some.parameters c.in-Some.size _ _ (rw c.in-Some.is at c.entry.ensures) h c.in-Ok.ensures.frame c.in-Ok.ensures.callers
