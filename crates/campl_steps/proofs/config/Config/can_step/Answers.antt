use Rattle.std.proofs.Common.{arith, Ok, subst, sym}
use Rattle.campl_eval.specs.View.{code_of}
use Rattle.campl_cells.specs.Wants.{Drawn, wanted}
use Rattle.campl_parts.specs.Tables.{tips}
use Rattle.campl_steps.specs.Configs.{CanStep, drawn, parts}
use Rattle.campl_steps.specs.Readiness.{IsReadyFor}
use Rattle.campl_steps.specs.Stepping.{ComesTo}
use Rattle.campl_steps.proofs.Able.{able, there-is}
use Rattle.campl_steps.proofs.config.Config.can_step.Goals as goal

pub returns-in-Ok : goal.returns-in-Ok
returns-in-Ok c =
    let old = c.args.self.now in
    let code = code_of c.args.program.now in
    let l = old.processes.ok.0 in
    let q = there-is old.processes.items c.args.number (omega (arith, c.len.ensures, c.if-len-number.false, l)) in
    let z : ComesTo code c.args.number c.args.branch old c.in-Ok.ready = record {
      process = q.0;
      there = q.1;
      ready = subst (λ (d : Drawn). IsReadyFor code (tips old.ends.items) (wanted code d q.0.life c.args.branch) c.in-Ok.ready) c.in-Some.ensures.0 (c.in-Ok.ensures.ready q.0 q.1);
    } in
    subst (λ b. CanStep code (drawn old) (parts old) c.args.number c.args.branch (Ok b)) (sym c.is_step.ensures) (able code c.args.number c.args.branch old c.in-Ok.ready z)
