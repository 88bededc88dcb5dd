use Rattle.std.proofs.Common.{◌∙◌}
use Rattle.campl_eval.proofs.Acts.{not-last}
use Rattle.campl_eval.proofs.machine.Machine.is_last.Goals as goal

pub returns : goal.returns
returns c = not-last _ _ _ c.requires (λ e. c.if-len-n.false (c.len.ensures ∙ e))
