use Rattle.std.proofs.Common.{arith, subst}
use Rattle.campl_eval.specs.View.{code_of}
use Rattle.campl_cells.specs.Wants.{Drawn, wanted}
use Rattle.campl_parts.specs.Tables.{tips}
use Rattle.campl_steps.specs.Readiness.{IsReadyFor}
use Rattle.campl_steps.proofs.Able.{there-is}
use Rattle.campl_steps.proofs.config.Config.step.Goals as goal

pub make-requires-clause-ready : goal.make-requires-clause-ready
make-requires-clause-ready c =
    let old = c.args.self.now in
    let code = code_of c.args.program.now in
    let l = old.processes.ok.0 in
    let q = there-is old.processes.items c.args.number (omega (arith, c.len.ensures, c.if-len-number.false, l)) in (
      code,
      c.args.branch,
      record {
        process = q.0;
        there = q.1;
        ready = subst (λ (d : Drawn). IsReadyFor code (tips old.ends.items) (wanted code d q.0.life c.args.branch) c.in-Ok.ready) c.in-Some.ensures.0 (c.in-Ok.ensures.ready q.0 q.1);
      },
    )

pub returns-in-Ok : goal.returns-in-Ok
returns-in-Ok c =
    let old = c.args.self.now in
    let code = code_of c.args.program.now in
    let l = old.processes.ok.0 in
    let q = there-is old.processes.items c.args.number (omega (arith, c.len.ensures, c.if-len-number.false, l)) in
    c.make.ensures code c.args.branch (record {
      process = q.0;
      there = q.1;
      ready = subst (λ (d : Drawn). IsReadyFor code (tips old.ends.items) (wanted code d q.0.life c.args.branch) c.in-Ok.ready) c.in-Some.ensures.0 (c.in-Ok.ensures.ready q.0 q.1);
    })
