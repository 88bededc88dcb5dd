use Rattle.std.proofs.Common.{◌≡◌, ◌+◌, arith, sym, ap, Some, ◌∙◌}
use Rattle.std.specs.Prelude.{slice_get}
use Rattle.campl_instructions.specs.View.{view_instr, view_block, view_decision}
use Rattle.campl_eval.specs.View.{code_of}
use Rattle.campl_eval.proofs.Passed.{passed}
use Rattle.campl_eval.proofs.machine.Frame.pass.Goals as goal

pub returns-in-Some-passes-clause-comes : goal.returns-in-Some-passes-clause-comes
returns-in-Some-passes-clause-comes c =
    let f = c.args.self.now in
    let place : f.at + c.loads-n.result ≡ c.in-Some.place = omega (arith, c.in-Some.ensures) in
    let known = sym (rw c.in-Some-decision.is at (rw c.raw.ensures.same at c.decision.ensures)) in
    passed (view_block c.args.block.now) f.block f.at f.variables f.operands (code_of c.args.program.now) c.in-Some-Match.d c.in-Some-Match.first c.in-Some-passes.to c.loads-n.result _ (view_decision c.in-Some-decision.decision.now)
    c.requires c.loads-n.ensures.within (ap (slice_get (view_block c.args.block.now).code) place ∙ sym c.in-Some-Match.ensures.value ∙ ap (λ x. Some (view_instr x)) c.in-Some-Match.field-0-is) known (rw c.as_slice.ensures at c.in-Some-passes.ensures)
