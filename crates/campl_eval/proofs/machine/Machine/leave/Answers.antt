use Rattle.std.proofs.Common.{◌∙◌, sym}
use Rattle.std.proofs.lemmas.Result.{on_ok_weaker}
use Rattle.campl_eval.proofs.Acts.{last-frame}
use Rattle.campl_eval.proofs.machine.Machine.leave.Goals as goal

pub returns-then-is_last-clause-frame : goal.returns-then-is_last-clause-frame
returns-then-is_last-clause-frame c = on_ok_weaker c.replace.result (λ e. e ∙ last-frame _ c.args.g c.args.n c.args.size c.args.self.now.frame.operands c.requires (sym c.is_last.ensures ∙ c.if-is_last.true)) c.replace.ensures.frame
