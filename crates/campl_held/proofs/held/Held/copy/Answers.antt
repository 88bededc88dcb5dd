use Rattle.std.proofs.Common.{◌≡◌, ◌∙◌, ap, subst, false, IfOk}
use Rattle.campl_linear.specs.Holding.{those}
use Rattle.campl_held.specs.Slots.{view_held, is_kept}
use Rattle.campl_held.proofs.Slots.{all-those}
use Rattle.campl_held.proofs.held.Held.copy.Goals as goal

pub returns : goal.returns
returns c =
    subst (λ k. IfOk c.those.result (λ h. view_held h ≡ k)) (ap (λ ns. those (is_kept false ns) (view_held c.args.self.now)) c.new-nothing.ensures ∙ all-those (view_held c.args.self.now))
    c.those.ensures
