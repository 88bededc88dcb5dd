use Rattle.std.proofs.Common.{sym, ap, ◌∙◌}
use Rattle.campl_meaning.specs.OneAtATime.{is_before}
use Rattle.campl_meaning.proofs.Order.{before-itself}
use Rattle.campl_order.proofs.order.Order.is_before.Goals as goal

pub returns-then-a-b : goal.returns-then-a-b
returns-then-a-b c names r = sym (before-itself (names c.args.a)) ∙ ap (λ k. is_before (names c.args.a) (names k)) c.if-a-b.true
