use Rattle.std.proofs.Common.{suc, ap, subst, ◌∙◌, arith}
use Rattle.campl_cells.specs.Wants.{Drawn}
use Rattle.campl_eval.specs.View.{code_of}
use Rattle.campl_steps.specs.Configs.{parts}
use Rattle.campl_steps.specs.Watching.{ends_waited}
use Rattle.campl_steps.proofs.Able.{there-is}
use Rattle.campl_order.specs.declared.board.Board.{Board}
use Rattle.campl_solo.specs.Fits.{HasWaited}
use Rattle.campl_solo.proofs.Resting.{waited-more}
use Rattle.campl_solo.proofs.tables.rest.Goals as goal

pub loop-branch-preserved : goal.loop-branch-preserved
loop-branch-preserved c =
    let v = c.loop-branch.invariant in
    let e = c.wait.ensures in
    let code = code_of c.args.program.now in
    let m = parts c.args.config.now in
    let p = c.args.number in
    let k = c.loop-branch.branch in
    let there = there-is c.args.config.now.processes.items p c.requires.there in
    let d0 : Drawn = record { child = 0; channel = 0; channel2 = 0 } in
    let waited : HasWaited code m p (suc k) c.args.schedule.now.waiting.items c.wait.new.schedule.waiting.items =
    waited-more code m p k c.args.schedule.now.waiting.items c.loop-branch.schedule.waiting.items c.wait.new.schedule.waiting.items (ends_waited c.waits.result)
    there.0 there.1 c.waits.ensures d0 e.waiting v.waited in
    record {
      flags = ap (λ (b : Board). b.flags.items) e.board ∙ v.flags;
      order = e.order ∙ v.order;
      scheduled = λ names s. e.scheduled names (v.scheduled names s);
      waited = subst (λ j. HasWaited code m p j c.args.schedule.now.waiting.items c.wait.new.schedule.waiting.items) (omega arith) waited;
    }
