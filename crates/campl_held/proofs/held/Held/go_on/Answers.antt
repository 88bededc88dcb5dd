use Rattle.campl_tree.specs.View.{view_chan}
use Rattle.campl_types.specs.Held.{On}
use Rattle.std.proofs.Common.{◌∙◌, sym, ap}
use Rattle.campl_linear.specs.Holding.{goes_on}
use Rattle.campl_held.specs.Slots.{view_held, live}
use Rattle.campl_held.proofs.Slots.{place-within, refilled, stays, went-on}
use Rattle.campl_held.proofs.held.Held.go_on.Goals as goal

pub set-requires : goal.set-requires
set-requires c = place-within c.args.name.now c.self.inside.slots c.in-Some.at (sym (c.self.invariant.0 c.args.name.now) ∙ sym (c.in-Some.ensures ∙ c.get.ensures.value))

pub invariant_of-self : goal.invariant_of-self
invariant_of-self c =
    rw c.set.ensures (went-on c.args.name.now _ c.self.inside.places.entries c.self.inside.slots c.in-Some.at c.in_ok-name-in-Some.ensures c.self.invariant.0 c.self.invariant.1 (c.in-Some.ensures ∙ c.get.ensures.value))

pub returns-in_ok-name-in-Some : goal.returns-in_ok-name-in-Some
returns-in_ok-name-in-Some c =
    ap (λ s. view_held (live s)) c.set.ensures
    ∙ refilled c.args.name.now _ c.in_ok-name-in-Some.ensures c.self.inside.slots c.in-Some.at (sym (c.self.invariant.0 c.args.name.now) ∙ sym (c.in-Some.ensures ∙ c.get.ensures.value))
    ∙ ap (λ l. goes_on c.args.name.now (On c.args.side (view_chan c.args.channel_type)) (view_held l)) c.self.view_is

pub returns-in-None : goal.returns-in-None
returns-in-None c =
    ap view_held (sym c.self.view_is) ∙ sym (stays c.args.name.now (On c.args.side (view_chan c.args.channel_type)) c.self.inside.slots (sym (c.self.invariant.0 c.args.name.now) ∙ sym (c.in-None.ensures ∙ c.get.ensures.value)))
    ∙ ap (λ l. goes_on c.args.name.now (On c.args.side (view_chan c.args.channel_type)) (view_held l)) c.self.view_is
