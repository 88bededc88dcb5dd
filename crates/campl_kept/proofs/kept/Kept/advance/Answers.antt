use Rattle.campl_eval.specs.View.{code_of, seen, seens}
use Rattle.campl_kept.specs.View.{view_kept}
use Rattle.campl_kept.proofs.Longer.{IsFinal, stays}
use Rattle.campl_kept.proofs.Turns.{goes-on}
use Rattle.campl_kept.proofs.kept.Kept.advance.Goals as goal

pub returns-in-Values-clause-kept : goal.returns-in-Values-clause-kept
returns-in-Values-clause-kept c =
    let final : IsFinal (view_kept c.args.self.now) = rw c.in-Values.is tt in
    λ cell is. stays (code_of c.args.program.now) cell (view_kept c.args.self.now) c.args.calls final is

pub returns-in-Broken-clause-kept : goal.returns-in-Broken-clause-kept
returns-in-Broken-clause-kept c =
    let final : IsFinal (view_kept c.args.self.now) = rw c.in-Broken.is tt in
    λ cell is. stays (code_of c.args.program.now) cell (view_kept c.args.self.now) c.args.calls final is

pub returns-in-None-clause-kept : goal.returns-in-None-clause-kept
returns-in-None-clause-kept c =
    let keeps = rw (c.in-None.is, c.as_mut.ensures.value) at c.in-Ok.ensures.came in
    λ cell is. goes-on (code_of c.args.program.now) cell (seen c.in-AtCall.eval.value.machine.frame) (seens c.in-AtCall.eval.value.machine.callers) c.args.calls _ keeps (rw c.in-AtCall.is at is)

pub returns-in-Some-clause-kept : goal.returns-in-Some-clause-kept
returns-in-Some-clause-kept c =
    let keeps = rw (c.in-Some.is, c.as_mut.ensures.value) at c.in-Ok.ensures.came in
    λ cell is. goes-on (code_of c.args.program.now) cell (seen c.in-AtCall.eval.value.machine.frame) (seens c.in-AtCall.eval.value.machine.callers) c.args.calls (view_kept c.in-Some.kept) keeps (rw c.in-AtCall.is at is)
