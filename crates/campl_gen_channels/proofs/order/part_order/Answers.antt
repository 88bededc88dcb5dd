use Rattle.std.proofs.Common.{◌+◌, ◌-◌, ◌∙◌, ap, sym, slice_get}
use Rattle.campl_plug.specs.TreeOrder.{searched}
use Rattle.campl_gen_channels.proofs.Orders.{searched-on, searched-out}
use Rattle.campl_gen_channels.proofs.order.part_order.Goals as goal

pub steps-preserved : goal.steps-preserved
steps-preserved c =
    ap (λ o. searched (c.args.count - (c.steps.next + 1)) c.args.count c.args.joins.now o (c.steps.next + 1)) c.in_ok-grow-in-Some.ensures
    ∙ sym (searched-on c.args.count c.steps.next c.args.joins.now c.steps.order.items c.in-Some.part c.steps-test.true (sym (ap (λ l. slice_get l c.steps.next) c.as_slice.ensures.value) ∙ sym c.in-Some.ensures))
    ∙ c.steps.invariant

pub returns-in-None : goal.returns-in-None
returns-in-None c =
    sym (searched-out c.args.count c.steps.next c.args.joins.now c.steps.order.items c.steps-test.true (sym (ap (λ l. slice_get l c.steps.next) c.as_slice.ensures.value) ∙ sym c.in-None.ensures)) ∙ c.steps.invariant
